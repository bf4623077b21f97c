-- `entry_unpack::inserts_seven_bit` meets its contract: one answer for each way through the tests, in the definition's order.
-- Assumes nothing.
use mathlib.Core.Path.{sym}
use Rattle.entry_unpack.proofs.Unpacking.{right_above, inserts_nothing, inserts_one}
use borrow.Author.Rules.{rules}
use Rattle.entry_unpack.proofs.inserts_seven_bit.Statement.{statement}
use Rattle.entry_unpack.proofs.inserts_seven_bit.Tie as tie

field-at-requires : tie.Need-field_at-requires
field-at-requires c κs = search rules

returns : tie.Need-returns-then-field_at-gt127
returns c = let a = c.args in sym (right_above a.instructions.now a.i c.field_at.ensures.is c.if-field_at-gt127.true)

field-at-requires-2 : tie.Need-field_at-requires-2
field-at-requires-2 c κs = search rules

returns-2 : tie.Need-returns-then-field_at-ne2
returns-2 c =
    let a = c.args in
    sym (inserts_nothing a.instructions.now a.i c.field_at.ensures.is c.if-field_at-gt127.false c.field_at-2.ensures.is c.if-field_at-ne2.true)

field-at-requires-3 : tie.Need-field_at-requires-3
field-at-requires-3 c κs = search rules

returns-3 : tie.Need-returns
returns-3 c =
    let a = c.args in
    sym (inserts_one a.instructions.now a.i c.field_at.ensures.is c.if-field_at-gt127.false c.field_at-2.ensures.is
    c.if-field_at-ne2.false c.field_at-3.ensures.is)

pub inserts_seven_bit_spec : {M : Type 1} → statement M
inserts_seven_bit_spec =
    tie.close
    (tie.spec
    field-at-requires
    returns
    field-at-requires-2
    returns-2
    field-at-requires-3
    returns-3)
