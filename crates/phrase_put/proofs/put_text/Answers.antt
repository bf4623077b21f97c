use native.Mathlib.Omega.{arith}
use Rattle.phrases.proofs.Putting.{puts_start, puts_next, puts_all}
use Rattle.phrase_put.proofs.put_text.Goals as goal

pub loop-b-init : goal.loop-b-init
loop-b-init c = puts_start c.args.out.now c.args.at c.min-next.ensures

pub loop-b-preserved : goal.loop-b-preserved
loop-b-preserved c = puts_next c.args.text.now c.loop-b.b-index (omega arith) c.loop-b.invariant c.put_byte-next.ensures

pub returns : goal.returns
returns c = puts_all c.args.text.now c.loop-b.b-index (omega arith) c.loop-b.invariant
