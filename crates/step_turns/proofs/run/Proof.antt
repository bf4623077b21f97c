-- `step_turns::run` meets its contract, by whether the state points inside, and by the right item: no slice has so many letters that a sum of two lengths does
-- not fit. Assumes nothing.
use mathlib.Core.Path.{◌≡◌, ◌∙◌, sym}
use mathlib.Core.Bool.{true}
use native.Mathlib.Omega.{arith}
use borrow.Author.Tests.{not-true, not-false}
use Rattle.captions.specs.Steps.{placed}
use Rattle.step_turns.proofs.Turning.{placed_within}
use borrow.Author.Rules.{rules}
use Rattle.step_turns.proofs.run.Statement.{statement}
use Rattle.step_turns.proofs.run.Tie as tie

inside : (c : tie.Else-not-placed) → let a = c.args in placed a.ops.now a.word.now a.s ≡ true
inside c = sym c.placed.ensures ∙ c.if-not-placed.false

placed-requires : tie.Need-placed-requires
placed-requires c κs = search rules

refused-requires : tie.Need-refused-requires
refused-requires c κs = search rules

returns : tie.Need-returns-then-not-placed
returns c =
    rw (sym c.placed.ensures ∙ c.if-not-placed.true) c.refused.ensures

right-fits-requires : tie.Need-right_fits-requires
right-fits-requires c κs = search rules

refused-requires-2 : tie.Need-refused-requires-then-not-right_fits
refused-requires-2 c κs = search rules

returns-2 : tie.Need-returns-then-not-right_fits
returns-2 c =
    rw (inside c.before.before.before, sym c.right_fits.ensures ∙ c.if-not-right_fits.true) c.refused-then-not-right_fits.ensures

run-on-requires : tie.Need-run_on-requires
run-on-requires c κs =
    let a = c.args in
    placed_within a.ops.now a.word.now a.s (omega arith) (inside (c.before.before))

returns-3 : tie.Need-returns
returns-3 c =
    rw (inside c.before.before.before, sym c.right_fits.ensures ∙ c.if-not-right_fits.false) c.run_on.ensures

pub run_spec : {M : Type 1} → statement M
run_spec =
    tie.close
    (tie.spec
    placed-requires
    refused-requires
    returns
    right-fits-requires
    refused-requires-2
    returns-2
    run-on-requires
    returns-3)
