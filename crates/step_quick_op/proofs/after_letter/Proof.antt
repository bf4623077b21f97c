-- `step_quick_op::after_letter` meets its contract, by the flag.
-- Assumes nothing.
use Rattle.step_quick_op.proofs.after_letter.Statement.{statement}
use Rattle.step_quick_op.proofs.after_letter.Tie as tie

returns : tie.Need-returns-then-flag
returns c = rw c.if-flag.true

returns-2 : tie.Need-returns-else-flag
returns-2 c = rw c.if-flag.false

pub after_letter_spec : {M : Type 1} → statement M
after_letter_spec =
    tie.close
    (tie.spec
    returns
    returns-2)
