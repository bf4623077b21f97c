-- `step_quick_op::moved_on` meets its contract.
-- Assumes nothing.
use native.Mathlib.Numerals.{add-one}
use borrow.Author.Rules.{rules}
use Rattle.step_quick_op.proofs.moved_on.Statement.{statement}
use Rattle.step_quick_op.proofs.moved_on.Tie as tie

add-t5 : tie.Need-overflow_add-result
add-t5 c = search rules

add-t6 : tie.Need-overflow_add-result-2
add-t6 c = search rules

returns : tie.Need-returns
returns c = let a = c.args in rw (add-one a.s.read, add-one a.s.given)

pub moved_on_spec : {M : Type 1} → statement M
moved_on_spec =
    tie.close
    (tie.spec
    add-t5
    add-t6
    returns)
