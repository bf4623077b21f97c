-- `index_fill::set_bit` meets its contract: the shift loses nothing.
-- Assumes nothing.
use mathlib.Core.Path.{ap}
use Prim.Native.Nat.{ℕ, ◌+◌, ◌*◌, ◌/◌, ◌%◌}
use native.Mathlib.Omega.{arith}
use lib.Bits.{bit_or}
use lib.ListN.{get_or, set}
use Rattle.index.proofs.Looking.{low_is}
use borrow.Author.Rules.{rules}
use Rattle.index_fill.proofs.set_bit.Statement.{statement}
use Rattle.index_fill.proofs.set_bit.Tie as tie

mul_at : tie.Need-overflow_mul-at
mul_at c = search rules

add_at : tie.Need-overflow_add-at
add_at c = search rules

mul-index : tie.Need-offset_bounds-index-at
mul-index c = search rules

slice-read-index : tie.Need-bounds-index-at
slice-read-index c = search rules

cast-index : tie.Need-overflow_cast-index
cast-index c = search rules

shl-index : tie.Need-overflow_shl-index
shl-index c = search rules

mul-index-2 : tie.Need-offset_bounds-index-at-2
mul-index-2 c = search rules

slice-write-index : tie.Need-bounds-index-at-2
slice-write-index c = search rules

same_length : tie.Need-shape_of-index
same_length c = search rules

returns : tie.Need-returns
returns c =
    let a = c.args in
    let at = 5 * a.left + a.right / 64 in
    ap (λ (x : ℕ). set a.index.now at (bit_or (get_or a.index.now at 0) x)) (low_is (a.right % 64) (omega arith))

pub set_bit_spec : {M : Type 1} → statement M
set_bit_spec =
    tie.close
    (tie.spec
    mul_at
    add_at
    mul-index
    slice-read-index
    cast-index
    shl-index
    mul-index-2
    slice-write-index
    same_length
    returns)
