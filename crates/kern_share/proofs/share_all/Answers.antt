use Rattle.std.proofs.Common.{arith}
use Rattle.kern_share.proofs.Laws.{sharing_none, sharing_more, sharing_all}
use Rattle.kern_share.proofs.share_all.Goals as goal

pub loop-i-init : goal.loop-i-init
loop-i-init c = sharing_none c.args.instructions.now c.args.kerns.now c.args.k

pub loop-i-preserved : goal.loop-i-preserved
loop-i-preserved c = sharing_more c.args.instructions.now c.args.kerns.now c.args.k c.loop-i.invariant (omega arith) c.share_at.ensures

pub returns : goal.returns
returns c = sharing_all c.args.instructions.now c.args.kerns.now c.args.k c.loop-i.invariant (omega arith)
