-- `chip_block::put_bytes` meets its contract: four stores in a row.
-- Assumes nothing.
use mathlib.Core.Path.{◌≡◌}
use Prim.Native.Nat.{suc, ◌+◌}
use native.Mathlib.Omega.{arith}
use lib.ListN.{length-set}
use borrow.Author.Rules.{rules}
use Rattle.chip_block.proofs.put_bytes.Statement.{statement}
use Rattle.chip_block.proofs.put_bytes.Tie as tie

slice-write-block : tie.Need-bounds-block-at
slice-write-block c = search rules

add-block : tie.Need-overflow_add-block
add-block c = search rules

slice-write-block-2 : tie.Need-bounds-block-at-2
slice-write-block-2 c = simp length-set (omega arith)

add-block-2 : tie.Need-overflow_add-block-2
add-block-2 c = search rules

slice-write-block-3 : tie.Need-bounds-block-at-3
slice-write-block-3 c = simp length-set (omega arith)

add-block-3 : tie.Need-overflow_add-block-3
add-block-3 c = search rules

slice-write-block-4 : tie.Need-bounds-block-at-4
slice-write-block-4 c = simp length-set (omega arith)

same_length : tie.Need-shape_of-block
same_length c = search rules

returns : tie.Need-returns
returns c =
    let a = c.args in
    let e₁ : a.at + 1 ≡ suc a.at = omega arith in
    let e₂ : a.at + 2 ≡ suc (suc a.at) = omega arith in
    let e₃ : a.at + 3 ≡ suc (suc (suc a.at)) = omega arith in
    rw (e₁, e₂, e₃)

pub put_bytes_spec : {M : Type 1} → statement M
put_bytes_spec =
    tie.close
    (tie.spec
    slice-write-block
    add-block
    slice-write-block-2
    add-block-2
    slice-write-block-3
    add-block-3
    slice-write-block-4
    same_length
    returns)
