-- `repair_fixes::warn_step` meets its contract: five warnings, each by its test, one after the other.
-- Assumes nothing.
use Rattle.repair_fixes.proofs.Pushes.{step_pushed}
use borrow.Author.Rules.{rules}
use Rattle.repair_fixes.proofs.warn_step.Statement.{statement}
use Rattle.repair_fixes.proofs.warn_step.Tie as tie

cast-at : tie.Need-overflow_cast-at
cast-at c = search rules

field-at-requires : tie.Need-field_at-right-requires
field-at-requires c κs = search rules

field-at-requires-2 : tie.Need-field_at-inserted-requires
field-at-requires-2 c κs = search rules

right-warning-requires : tie.Need-right_warning-kind-requires
right-warning-requires c κs = search rules

push-if-requires : tie.Need-push_if-n1-requires
push-if-requires c κs = search rules

push-if-requires-2 : tie.Need-push_if-n2-requires
push-if-requires-2 c κs = search rules

push-if-requires-3 : tie.Need-push_if-n3-requires
push-if-requires-3 c κs = search rules

push-if-requires-4 : tie.Need-push_if-n4-requires
push-if-requires-4 c κs = search rules

push-if-requires-5 : tie.Need-push_if-requires
push-if-requires-5 c κs = search rules

same_length : tie.Need-shape_of-warnings
same_length c = search rules

returns : tie.Need-returns
returns c = λ p g.
    step_pushed g c.requires.0 c.requires.1 c.right_warning-kind.ensures c.field_at-right.ensures c.field_at-inserted.ensures.is
    c.requires.2 c.push_if-n1.ensures c.push_if-n2.ensures c.push_if-n3.ensures c.push_if-n4.ensures c.push_if.ensures

pub warn_step_spec : {M : Type 1} → statement M
warn_step_spec =
    tie.close
    (tie.spec
    cast-at
    field-at-requires
    field-at-requires-2
    right-warning-requires
    push-if-requires
    push-if-requires-2
    push-if-requires-3
    push-if-requires-4
    push-if-requires-5
    same_length
    returns)
