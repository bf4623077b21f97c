use mathlib.Core.Path.{◌≡◌, sym, ◌∙◌}
use mathlib.Core.Bool.{true}
use native.Mathlib.Omega.{arith}
use lib.ListN.{length}
use Rattle.text_lines.specs.Writing.{lines_fit}
use Rattle.text_lines.proofs.Steps.{lines_none, lines_more}
use Rattle.text_lines.proofs.Taken.{line_fits, six_numbers, place_fits}
use Rattle.text_lines.proofs.put_lines.Goals as goal

pub loop-i-init : goal.loop-i-init
loop-i-init c = let a = c.args in lines_none a.letter a.n a.numbers.now a.k a.out.now a.at

-- the lines are taken: every place among the numbers fits, and there is room for each line
pub put_line-next-requires : goal.put_line-next-requires
put_line-next-requires c =
    let a = c.args in
    let t : lines_fit a.n a.k a.count a.at (length a.out.now) ≡ true = sym c.lines_fit.ensures ∙ c.if-not-lines_fit.false in (
      six_numbers a.letter a.n a.numbers.now a.k a.count a.out.now a.at t,
      place_fits a.letter a.n a.numbers.now a.k a.count a.out.now a.at t (omega arith) c.loop-i.i c.loop-i-test.true,
      line_fits a.letter a.n a.numbers.now a.k a.count a.out.now a.at t c.loop-i.i c.loop-i-test.true c.loop-i.invariant,
    )

pub loop-i-preserved : goal.loop-i-preserved
loop-i-preserved c =
    let a = c.args in
    lines_more a.letter a.n a.numbers.now a.k a.out.now a.at c.loop-i.i c.loop-i.invariant c.put_line-next.ensures
