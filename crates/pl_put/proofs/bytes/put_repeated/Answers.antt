use native.Mathlib.Omega.{arith}
use Rattle.property_lists.proofs.Putting.{counted_none}
use Rattle.pl_put.proofs.Wholes.{repeated_more, repeated_all}
use Rattle.pl_put.proofs.bytes.put_repeated.Goals as goal

pub loop-init : goal.loop-init
loop-init c = counted_none c.args.out.now c.args.at c.min-next.ensures

pub loop-preserved : goal.loop-preserved
loop-preserved c = repeated_more c.args.b c.loop.counter c.loop.invariant c.put_byte-next.ensures

pub returns : goal.returns
returns c = repeated_all c.args.b c.loop.counter c.args.n (omega arith) c.loop.invariant
