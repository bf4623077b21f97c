use native.Mathlib.Omega.{arith}
use Rattle.property_lists.proofs.Putting.{counted_none, counted_next, counted_all}
use Rattle.pl_put.proofs.bytes.put_bytes.Goals as goal

pub loop-b-init : goal.loop-b-init
loop-b-init c = counted_none c.args.out.now c.args.at c.min-next.ensures

pub loop-b-preserved : goal.loop-b-preserved
loop-b-preserved c = counted_next c.args.text.now c.loop-b.b-index (omega arith) c.loop-b.invariant c.put_byte-next.ensures

pub returns : goal.returns
returns c = counted_all c.args.text.now c.loop-b.b-index (omega arith) c.loop-b.invariant
