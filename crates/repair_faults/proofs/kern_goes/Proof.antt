-- `repair_faults::kern_goes` meets its contract: one answer for each way through the test.
-- Assumes nothing.
use Rattle.repair_faults.proofs.Steps.{kern_none, kern_index}
use borrow.Author.Rules.{rules}
use Rattle.repair_faults.proofs.kern_goes.Statement.{statement}
use Rattle.repair_faults.proofs.kern_goes.Tie as tie

field-at-requires : tie.Need-field_at-requires
field-at-requires c κs = search rules

returns : tie.Need-returns-then-field_at-ne1
returns c =
    let a = c.args in
    kern_none a.instructions.now a.kerns.now a.i c.field_at.ensures.is c.if-field_at-ne1.true

field-at-requires-2 : tie.Need-field_at-requires-2
field-at-requires-2 c κs = search rules

cast-result : tie.Need-overflow_cast-result
cast-result c = search rules

returns-2 : tie.Need-returns
returns-2 c =
    let a = c.args in
    kern_index a.instructions.now a.kerns.now a.i c.field_at.ensures.is c.if-field_at-ne1.false c.field_at-2.ensures.is

pub kern_goes_spec : {M : Type 1} → statement M
kern_goes_spec =
    tie.close
    (tie.spec
    field-at-requires
    returns
    field-at-requires-2
    cast-result
    returns-2)
