-- `index::look_up` meets its contract: each answer by the tests that lead to it.
-- Assumes nothing.
use mathlib.Core.Path.{sym, ◌∙◌}
use native.Mathlib.Omega.{arith}
use Rattle.index.proofs.Looking.{bit_right, no_bit, past_pairs, stands, other_pair}
use borrow.Author.Rules.{rules}
use Rattle.index.proofs.look_up.Statement.{statement}
use Rattle.index.proofs.look_up.Tie as tie

has-bit-requires : tie.Need-has_bit-requires
has-bit-requires c κs = search rules

returns : tie.Need-returns-then-not-has_bit
returns c =
    let a = c.args in
    no_bit a.index.now a.pairs.now a.left a.right c.has_bit.ensures (c.if-not-has_bit.true)

mul-index-at : tie.Need-overflow_mul-left
mul-index-at c = search rules

add-index-at : tie.Need-overflow_add-left
add-index-at c = search rules

index-at-requires : tie.Need-index_at-before-requires
index-at-requires c κs = search rules

returns-2 : tie.Need-returns-then-n-before
returns-2 c =
    let a = c.args in
    past_pairs a.index.now a.pairs.now a.left a.right c.has_bit.ensures (c.if-not-has_bit.false)
    (omega (arith, c.index_at-before.ensures, c.if-n-before.true))

ones-below-requires : tie.Need-ones_below-requires
ones-below-requires c κs =
    let a = c.args in
    omega (arith, bit_right a.index.now a.left a.right (sym c.has_bit.ensures ∙ c.if-not-has_bit.false))

cast-k : tie.Need-overflow_cast-k
cast-k c = search rules

add-k : tie.Need-overflow_add-k
add-k c = search rules

returns-3 : tie.Need-returns-then-n-k
returns-3 c =
    let a = c.args in
    past_pairs a.index.now a.pairs.now a.left a.right c.has_bit.ensures (c.if-not-has_bit.false)
    (omega (arith, c.index_at-before.ensures, c.ones_below.ensures.0, c.if-n-k.true))

is-pair-requires : tie.Need-is_pair-requires
is-pair-requires c κs = search rules

returns-4 : tie.Need-returns-then-is_pair
returns-4 c =
    let a = c.args in
    stands a.index.now a.pairs.now a.left a.right c.has_bit.ensures (c.if-not-has_bit.false)
    (omega (arith, c.index_at-before.ensures, c.ones_below.ensures.0)) c.if-n-k.false c.is_pair.ensures c.if-is_pair.true

returns-5 : tie.Need-returns-else-is_pair
returns-5 c =
    let a = c.args in
    other_pair a.index.now a.pairs.now a.left a.right c.has_bit.ensures (c.if-not-has_bit.false)
    (omega (arith, c.index_at-before.ensures, c.ones_below.ensures.0)) c.if-n-k.false c.is_pair.ensures c.if-is_pair.false

pub look_up_spec : {M : Type 1} → statement M
look_up_spec =
    tie.close
    (tie.spec
    has-bit-requires
    returns
    mul-index-at
    add-index-at
    index-at-requires
    returns-2
    ones-below-requires
    cast-k
    add-k
    returns-3
    is-pair-requires
    returns-4
    returns-5)
