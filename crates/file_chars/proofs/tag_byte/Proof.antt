-- `file_chars::tag_byte` meets its contract: its tests are those of the definition.
-- Assumes nothing.
use Prim.Native.Nat.{◌%◌}
use borrow.Author.Tests.{ne_eqb}
use Rattle.words.proofs.Bits.{number_pos, number_neg}
use borrow.Author.Rules.{rules}
use Rattle.file_chars.proofs.tag_byte.Statement.{statement}
use Rattle.file_chars.proofs.tag_byte.Tie as tie

mul-u8-at : tie.Need-overflow_mul-w
mul-u8-at c = search rules

add-u8-at : tie.Need-overflow_add-w
add-u8-at c = search rules

item-at-requires : tie.Need-item_at-tag-requires
item-at-requires c κs = search rules

mul-result : tie.Need-overflow_mul-result
mul-result c = search rules

add-result : tie.Need-overflow_add-result
add-result c = search rules

returns : tie.Need-returns-then-entry-lt2147483648
returns c = rw (number_pos c.args.entry c.if-entry-lt2147483648.true, c.item_at-tag.ensures)

mul-result-2 : tie.Need-overflow_mul-result-then-tag-eq1
mul-result-2 c = search rules

returns-2 : tie.Need-returns-then-tag-eq1
returns-2 c =
    rw (number_neg c.args.entry c.if-entry-lt2147483648.false, ← c.item_at-tag.ensures, c.if-tag-eq1.true)

returns-3 : tie.Need-returns-else-tag-eq1
returns-3 c =
    rw (number_neg c.args.entry c.if-entry-lt2147483648.false, ← c.item_at-tag.ensures, ne_eqb (c.item_at-tag.result % 4) 1 c.if-tag-eq1.false)

pub tag_byte_spec : {M : Type 1} → statement M
tag_byte_spec =
    tie.close
    (tie.spec
    mul-u8-at
    add-u8-at
    item-at-requires
    mul-result
    add-result
    returns
    mul-result-2
    returns-2
    returns-3)
