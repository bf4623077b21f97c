-- `repair_faults::product_goes` meets its contract: one answer for each way through the test.
-- Assumes nothing.
use Rattle.repair_faults.proofs.Steps.{product_none, product_by}
use borrow.Author.Rules.{rules}
use Rattle.repair_faults.proofs.product_goes.Statement.{statement}
use Rattle.repair_faults.proofs.product_goes.Tie as tie

field-at-requires : tie.Need-field_at-requires
field-at-requires c κs = search rules

returns : tie.Need-returns-then-field_at-ne2
returns c =
    let a = c.args in
    product_none a.instructions.now a.existing.now a.i c.field_at.ensures.is c.if-field_at-ne2.true

field-at-requires-2 : tie.Need-field_at-requires-2
field-at-requires-2 c κs = search rules

exists-requires : tie.Need-exists-requires
exists-requires c κs = search rules

returns-2 : tie.Need-returns
returns-2 c =
    let a = c.args in
    product_by a.instructions.now a.existing.now a.i c.field_at.ensures.is c.if-field_at-ne2.false c.field_at-2.ensures.is
    c.exists.ensures

pub product_goes_spec : {M : Type 1} → statement M
product_goes_spec =
    tie.close
    (tie.spec
    field-at-requires
    returns
    field-at-requires-2
    exists-requires
    returns-2)
