-- `repair_faults::skip_goes` meets its contract: one answer for each way through the tests, in the definition's order.
-- Assumes nothing.
use Rattle.repair_faults.proofs.Steps.{skip_unreachable, skip_none, skip_past, skip_lands}
use borrow.Author.Rules.{rules}
use Rattle.repair_faults.proofs.skip_goes.Statement.{statement}
use Rattle.repair_faults.proofs.skip_goes.Tie as tie

item-at-requires : tie.Need-item_at-requires
item-at-requires c κs = search rules

returns : tie.Need-returns-then-item_at-eq0
returns c =
    let a = c.args in
    skip_unreachable a.instructions.now a.marks.now a.i c.item_at.ensures c.if-item_at-eq0.true

field-at-requires : tie.Need-field_at-next-requires
field-at-requires c κs = search rules

returns-2 : tie.Need-returns-then-next-gt2147483647
returns-2 c =
    let a = c.args in
    skip_none a.instructions.now a.marks.now a.i c.item_at.ensures c.if-item_at-eq0.false c.field_at-next.ensures c.if-next-gt2147483647.true

returns-3 : tie.Need-returns-then-n-i
returns-3 c =
    let a = c.args in
    skip_past a.instructions.now a.marks.now a.i c.item_at.ensures c.if-item_at-eq0.false c.field_at-next.ensures c.if-next-gt2147483647.false
    c.if-n-i.true

sub-result : tie.Need-overflow_sub-result
sub-result c = search rules

cast-result : tie.Need-overflow_cast-result
cast-result c = search rules

add-result : tie.Need-overflow_add-result
add-result c = search rules

returns-4 : tie.Need-returns
returns-4 c =
    let a = c.args in
    skip_lands a.instructions.now a.marks.now a.i c.item_at.ensures c.if-item_at-eq0.false c.field_at-next.ensures c.if-next-gt2147483647.false
    c.if-n-i.false

pub skip_goes_spec : {M : Type 1} → statement M
skip_goes_spec =
    tie.close
    (tie.spec
    item-at-requires
    returns
    field-at-requires
    returns-2
    returns-3
    sub-result
    cast-result
    add-result
    returns-4)
