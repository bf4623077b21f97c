-- `file_chars::remainder_byte` meets its contract: its tests are those of the definition.
-- Assumes nothing.
use Prim.Native.Nat.{◌%◌}
use borrow.Author.Tests.{ne_eqb}
use Rattle.words.proofs.Bits.{number_pos, number_neg}
use borrow.Author.Rules.{rules}
use Rattle.file_chars.proofs.remainder_byte.Statement.{statement}
use Rattle.file_chars.proofs.remainder_byte.Tie as tie

cast-result : tie.Need-overflow_cast-result
cast-result c = search rules

returns : tie.Need-returns-then-entry-lt2147483648
returns c = rw (number_pos c.args.entry c.if-entry-lt2147483648.true)

mul-u8-at : tie.Need-overflow_mul-w
mul-u8-at c = search rules

add-u8-at : tie.Need-overflow_add-w
add-u8-at c = search rules

item-at-requires : tie.Need-item_at-requires
item-at-requires c κs = search rules

mul-u8-at-2 : tie.Need-overflow_mul-w-else-item_at-eq1
mul-u8-at-2 c = search rules

add-u8-at-2 : tie.Need-overflow_add-w-else-item_at-eq1
add-u8-at-2 c = search rules

item-at-requires-2 : tie.Need-item_at-requires-else-item_at-eq1
item-at-requires-2 c κs = search rules

returns-2 : tie.Need-returns-then-item_at-eq1
returns-2 c =
    rw (number_neg c.args.entry c.if-entry-lt2147483648.false, ← c.item_at.ensures, c.if-item_at-eq1.true)

returns-3 : tie.Need-returns-else-item_at-eq1
returns-3 c =
    rw (
      number_neg c.args.entry c.if-entry-lt2147483648.false,
      ← c.item_at.ensures,
      ne_eqb (c.item_at.result % 4) 1 c.if-item_at-eq1.false,
      c.item_at-else-item_at-eq1.ensures,
    )

pub remainder_byte_spec : {M : Type 1} → statement M
remainder_byte_spec =
    tie.close
    (tie.spec
    cast-result
    returns
    mul-u8-at
    add-u8-at
    item-at-requires
    mul-u8-at-2
    add-u8-at-2
    item-at-requires-2
    returns-2
    returns-3)
