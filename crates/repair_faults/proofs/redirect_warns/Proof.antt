-- `repair_faults::redirect_warns` meets its contract: one answer for each way through the tests, in the definition's order.
-- Assumes nothing.
use Rattle.repair_faults.proofs.Steps.{redirect_none, redirect_followed, redirect_reached, redirect_unreached}
use borrow.Author.Rules.{rules}
use Rattle.repair_faults.proofs.redirect_warns.Statement.{statement}
use Rattle.repair_faults.proofs.redirect_warns.Tie as tie

field-at-requires : tie.Need-field_at-requires
field-at-requires c κs = search rules

returns : tie.Need-returns-then-field_at-ne3
returns c =
    let a = c.args in
    redirect_none a.instructions.now a.marks.now a.passthrough.now a.i c.field_at.ensures.is c.if-field_at-ne3.true

field-at-requires-2 : tie.Need-field_at-requires-2
field-at-requires-2 c κs = search rules

cast-target : tie.Need-overflow_cast-target
cast-target c = search rules

returns-2 : tie.Need-returns-then-target-instructions
returns-2 c =
    let a = c.args in
    redirect_followed a.instructions.now a.marks.now a.passthrough.now a.i c.field_at.ensures.is c.if-field_at-ne3.false
    c.field_at-2.ensures.is c.if-target-instructions.true

item-at-requires : tie.Need-item_at-requires
item-at-requires c κs = search rules

returns-3 : tie.Need-returns-then-item_at-ne0
returns-3 c =
    let a = c.args in
    redirect_reached a.instructions.now a.marks.now a.passthrough.now a.i c.field_at.ensures.is c.if-field_at-ne3.false
    c.field_at-2.ensures.is c.if-target-instructions.false
    c.item_at.ensures c.if-item_at-ne0.true

item-at-requires-2 : tie.Need-item_at-requires-2
item-at-requires-2 c κs = search rules

returns-4 : tie.Need-returns
returns-4 c =
    let a = c.args in
    redirect_unreached a.instructions.now a.marks.now a.passthrough.now a.i c.field_at.ensures.is c.if-field_at-ne3.false
    c.field_at-2.ensures.is c.if-target-instructions.false
    c.item_at.ensures c.if-item_at-ne0.false c.item_at-2.ensures

pub redirect_warns_spec : {M : Type 1} → statement M
redirect_warns_spec =
    tie.close
    (tie.spec
    field-at-requires
    returns
    field-at-requires-2
    cast-target
    returns-2
    item-at-requires
    returns-3
    item-at-requires-2
    returns-4)
