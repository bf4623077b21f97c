use Rattle.text_digits.proofs.Stores.{sets_same}
use Rattle.text_justify.proofs.number.put_blanks.Goals as goal

pub loop-i-preserved : goal.loop-i-preserved
loop-i-preserved c = let a = c.args in sets_same c.loop-i.i 32 a.out.now c.loop-i.out a.at c.loop-i.invariant
