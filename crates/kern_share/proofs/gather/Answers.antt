use Rattle.std.proofs.Common.{◌≡◌, arith}
use Rattle.lang.specs.Records.{count}
use Rattle.kern_share.proofs.Laws.{gathering_none, gathering_more}
use Rattle.kern_share.proofs.gather.Goals as goal

pub loop-i-init : goal.loop-i-init
loop-i-init c = gathering_none c.args.instructions.now c.args.kerns.now c.args.k (omega arith)

pub loop-i-preserved : goal.loop-i-preserved
loop-i-preserved c =
    let a = c.args in
    gathering_more a.instructions.now a.kerns.now a.k (omega arith) c.loop-i.invariant (omega arith) c.share_value-m.ensures.value
    c.share_value-m.ensures.kerns_after

pub returns : goal.returns
returns c =
    let e : c.loop-i.i ≡ count c.args.instructions.now = omega arith in
    record { value = rw e at c.loop-i.invariant.counted; appending = rw e at c.loop-i.invariant.stand }
