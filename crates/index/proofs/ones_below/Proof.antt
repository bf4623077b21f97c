-- `index::ones_below` meets its contract: the ones of the words before its own, and the low ones of its own.
-- Assumes nothing.
use Prim.Native.Nat.{◌%◌}
use native.Mathlib.Omega.{arith}
use lib.Pow.{pow_pos}
use Rattle.index.proofs.Looking.{low_is, low_ones}
use borrow.Author.Rules.{rules}
use Rattle.index.proofs.ones_below.Statement.{statement}
use Rattle.index.proofs.ones_below.Tie as tie

mul_at : tie.Need-overflow_mul-at
mul_at c = search rules

ones-from-requires : tie.Need-ones_from-whole-requires
ones-from-requires c κs = search rules

add-index-at : tie.Need-overflow_add-at
add-index-at c = search rules

index-at-requires : tie.Need-index_at-word-requires
index-at-requires c κs = search rules

cast-result : tie.Need-overflow_cast-result
cast-result c = search rules

shl-result : tie.Need-overflow_shl-result
shl-result c = search rules

rem-result : tie.Need-nonzero_rem-result-2
rem-result c =
    let b = c.args.right % 64 in omega (arith, low_is b (omega arith), pow_pos b)

add-result : tie.Need-overflow_add-result
add-result c =
    let b = c.args.right % 64 in
    rw (low_is b (omega arith)) (omega (arith, low_ones c.index_at-word.result b))

returns : tie.Need-returns
returns c =
    let a = c.args in
    let b = a.right % 64 in (
      rw (low_is b (omega arith), c.ones_from-whole.ensures.0, c.index_at-word.ensures),
      rw (low_is b (omega arith)) (omega (arith, low_ones c.index_at-word.result b, c.ones_from-whole.ensures.1)),
    )

pub ones_below_spec : {M : Type 1} → statement M
ones_below_spec =
    tie.close
    (tie.spec
    mul_at
    ones-from-requires
    add-index-at
    index-at-requires
    cast-result
    shl-result
    rem-result
    add-result
    returns)
