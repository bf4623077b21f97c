-- `file_chars::char_word` meets its contract: the word has the four bytes that it is put together from.
-- Assumes nothing.
use mathlib.Core.Path.{◌≡◌, ap, ◌∙◌}
use Prim.Native.Nat.{ℕ, ◌+◌, ◌*◌}
use lib.ListN.{get_or}
use Rattle.file_chars.proofs.Laws.{joined_bytes}
use native.Mathlib.Omega.{arith}
use borrow.Author.Rules.{rules}
use Rattle.file_chars.proofs.char_word.Statement.{statement}
use Rattle.file_chars.proofs.char_word.Tie as tie

mul-u8-at : tie.Need-overflow_mul-w
mul-u8-at c = search rules

item-at-requires : tie.Need-item_at-first-requires
item-at-requires c κs = search rules

cast-first : tie.Need-overflow_cast-first
cast-first c = search rules

mul-u8-at-2 : tie.Need-overflow_mul-w-2
mul-u8-at-2 c = search rules

add-u8-at : tie.Need-overflow_add-w
add-u8-at c = search rules

item-at-requires-2 : tie.Need-item_at-second-requires
item-at-requires-2 c κs = search rules

cast-second : tie.Need-overflow_cast-second
cast-second c = search rules

tag-byte-requires : tie.Need-tag_byte-third-requires
tag-byte-requires c κs = search rules

cast-third : tie.Need-overflow_cast-third
cast-third c = search rules

mul-result : tie.Need-overflow_mul-result
mul-result c = search rules

mul-result-2 : tie.Need-overflow_mul-result-2
mul-result-2 c = search rules

add-result : tie.Need-overflow_add-result
add-result c = search rules

mul-result-3 : tie.Need-overflow_mul-result-3
mul-result-3 c = search rules

add-result-2 : tie.Need-overflow_add-result-2
add-result-2 c = search rules

remainder-byte-requires : tie.Need-remainder_byte-requires
remainder-byte-requires c κs = search rules

cast-result : tie.Need-overflow_cast-result
cast-result c = search rules

add-result-3 : tie.Need-overflow_add-result-3
add-result-3 c = search rules

returns : tie.Need-returns
returns c =
    let a = c.args in
    let e : 4 * a.w ≡ 4 * a.w + 0 = omega arith in
    joined_bytes c.item_at-first.result c.item_at-second.result c.tag_byte-third.result c.remainder_byte.result (omega arith) (omega arith) (omega arith)
    (omega arith)
    ∙ rw (c.item_at-first.ensures ∙ ap (λ (k : ℕ). get_or a.old.now k 0) e, c.item_at-second.ensures, c.tag_byte-third.ensures, c.remainder_byte.ensures)

pub char_word_spec : {M : Type 1} → statement M
char_word_spec =
    tie.close
    (tie.spec
    mul-u8-at
    item-at-requires
    cast-first
    mul-u8-at-2
    add-u8-at
    item-at-requires-2
    cast-second
    tag-byte-requires
    cast-third
    mul-result
    mul-result-2
    add-result
    mul-result-3
    add-result-2
    remainder-byte-requires
    cast-result
    add-result-3
    returns)
