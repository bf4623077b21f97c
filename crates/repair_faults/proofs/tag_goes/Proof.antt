-- `repair_faults::tag_goes` meets its contract: one answer for each way through the test.
-- Assumes nothing.
use mathlib.Core.List.{[]}
use Rattle.repair_faults.proofs.Steps.{tag_none, tag_by}
use borrow.Author.Rules.{rules}
use Rattle.repair_faults.proofs.tag_goes.Statement.{statement}
use Rattle.repair_faults.proofs.tag_goes.Tie as tie

field-at-requires : tie.Need-field_at-requires
field-at-requires c κs = search rules

returns : tie.Need-returns-then-field_at-ne2
returns c =
    let a = c.args in
    tag_none a.instructions.now [] a.i c.field_at.ensures.is c.if-field_at-ne2.true

field-at-requires-2 : tie.Need-field_at-requires-2
field-at-requires-2 c κs = search rules

is-standard-requires : tie.Need-is_standard-requires
is-standard-requires c κs = search rules

returns-2 : tie.Need-returns
returns-2 c =
    let a = c.args in
    tag_by a.instructions.now [] a.i c.field_at.ensures.is c.if-field_at-ne2.false c.field_at-2.ensures.is c.is_standard.ensures

pub tag_goes_spec : {M : Type 1} → statement M
tag_goes_spec =
    tie.close
    (tie.spec
    field-at-requires
    returns
    field-at-requires-2
    is-standard-requires
    returns-2)
