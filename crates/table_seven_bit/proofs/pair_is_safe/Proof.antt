-- `table_seven_bit::pair_is_safe` meets its contract: each return by the tests, of the words that were read, that lead to it.
-- Assumes nothing.
use mathlib.Core.Path.{◌∙◌}
use Rattle.table_seven_bit.proofs.Laws.{safe_left, safe_right, safe_both}
use borrow.Author.Rules.{rules}
use Rattle.table_seven_bit.proofs.pair_is_safe.Statement.{statement}
use Rattle.table_seven_bit.proofs.pair_is_safe.Tie as tie

number-at-requires : tie.Need-number_at-requires
number-at-requires c κs = search rules

left-place-requires : tie.Need-left_place-requires
left-place-requires c κs = search rules

returns : tie.Need-returns-then-left_place-gt128
returns c =
    let a = c.args in
    safe_left a.pairs.now a.ops.now a.k c.number_at.ensures c.left_place.ensures c.if-left_place-gt128.true

number-at-requires-2 : tie.Need-number_at-requires-2
number-at-requires-2 c κs = search rules

returns-2 : tie.Need-returns-then-number_at-ge128
returns-2 c =
    let a = c.args in
    safe_right a.pairs.now a.ops.now a.k c.number_at.ensures c.left_place.ensures c.if-left_place-gt128.false c.number_at-2.ensures
    c.if-number_at-ge128.true

becomes-seven-bit-requires : tie.Need-becomes_seven_bit-requires
becomes-seven-bit-requires c κs = search rules

returns-3 : tie.Need-returns
returns-3 c =
    let a = c.args in
    c.becomes_seven_bit.ensures
    ∙ safe_both a.pairs.now a.ops.now a.k c.number_at.ensures c.left_place.ensures c.if-left_place-gt128.false
    c.number_at-2.ensures c.if-number_at-ge128.false

pub pair_is_safe_spec : {M : Type 1} → statement M
pair_is_safe_spec =
    tie.close
    (tie.spec
    number-at-requires
    left-place-requires
    returns
    number-at-requires-2
    returns-2
    becomes-seven-bit-requires
    returns-3)
