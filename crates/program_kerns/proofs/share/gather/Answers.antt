use Rattle.std.proofs.Common.{◌≡◌, arith}
use Rattle.lang.specs.Records.{count}
use Rattle.program_kerns.proofs.Sharing.{counted_whole, counted_short}
use Rattle.program_kerns.proofs.share.gather.Goals as goal

pub returns-then-kerns-m : goal.returns-then-kerns-m
returns-then-kerns-m c =
    counted_short (rw c.loop-i.auto.kerns at c.share_kern-m.ensures) (omega arith) (count c.args.instructions.now) (omega arith)

pub returns : goal.returns
returns c =
    let e : c.loop-i.i ≡ count c.args.instructions.now = omega arith in
    rw e at (counted_whole c.loop-i.invariant)
