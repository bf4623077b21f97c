-- `repair_fixes::right_warning` meets its contract: by whether the step is a ligature.
-- Assumes nothing.
use Rattle.repair_faults.proofs.Steps.{of_kind, not_kind}
use borrow.Author.Rules.{rules}
use Rattle.repair_fixes.proofs.right_warning.Statement.{statement}
use Rattle.repair_fixes.proofs.right_warning.Tie as tie

field-at-requires : tie.Need-field_at-requires
field-at-requires c κs = search rules

returns : tie.Need-returns-then-field_at-eq2
returns c = let a = c.args in rw (of_kind a.instructions.now a.i 2 c.field_at.ensures.is c.if-field_at-eq2.true)

returns-2 : tie.Need-returns-else-field_at-eq2
returns-2 c = let a = c.args in rw (not_kind a.instructions.now a.i 2 c.field_at.ensures.is c.if-field_at-eq2.false)

pub right_warning_spec : {M : Type 1} → statement M
right_warning_spec =
    tie.close
    (tie.spec
    field-at-requires
    returns
    returns-2)
