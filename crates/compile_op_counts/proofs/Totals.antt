-- The ops of one row and of all, over rows that say the same; and what a capped total tells.
-- Assumes nothing.
use mathlib.Core.Path.{◌≡◌, refl, ap}
use mathlib.Core.Bool.{Bool, true, false}
use mathlib.Core.List.{List}
use mathlib.Core.Logic.{◌⊎◌, inl, inr}
use Prim.Native.Nat.{ℕ, zero, suc, ◌+◌, ◌*◌, ◌/◌, ◌<◌, ◌≤◌}
use native.Mathlib.Nat.{eq-or-lt_of_le, le_of_suc-le-suc}
use native.Mathlib.Omega.{arith}
use lib.ListN.{length}
use borrow.Author.Tests.{le-leb, lt-leb}
use Rattle.words.proofs.Lists.{get_d_tabulate}
use Rattle.words.proofs.Tests.{less_or_not}
use Rattle.reading.specs.Items.{bnd}
use Rattle.reading.specs.Depth.{Finished}
use Rattle.reading.specs.Loops.{Ruled}
use Rattle.fonts.specs.Numbers.{ops_of, entry_of, ops_before}
use Rattle.compiling.specs.Rows.{ruled_at, pairs}
use Rattle.compiling.specs.SettledRows.{outcome, finished_rows}
use Rattle.compiling.specs.OpRows.{capped, row_ops, op_total}
use Rattle.compiling.proofs.RowLaws.{SameRules, outcome_same}
use Rattle.compile_op_counts.specs.Counting.{sizes_refusal}

-- over rows that say the same, a row has as many ops
pub count_same : (n : ℕ) (w u : List ℕ) → SameRules n w u → (k : ℕ) → k < n → row_ops n u k ≡ row_ops n w k
count_same n w u s k h = ap (λ o. length (ops_of o)) (outcome_same n w u s k h)

part_by : (f : Finished) (ps : List Ruled) (k n : ℕ) → (k ≡ n) ⊎ (k < n) → (k < n → length (ops_of (entry_of f ps k)) ≤ ops_before f ps n) →
    length (ops_of (entry_of f ps k)) ≤ ops_before f ps n + length (ops_of (entry_of f ps n))
part_by f ps k n (inl e) i = rw e (omega arith)
part_by f ps k n (inr h) i = omega (arith, i h)

part_of_total : (f : Finished) (ps : List Ruled) (k n : ℕ) → k < n → length (ops_of (entry_of f ps k)) ≤ ops_before f ps n
unfolding ops_before
part_of_total f ps k zero h = absurd (omega arith)
part_of_total f ps k (suc n) h = part_by f ps k n (eq-or-lt_of_le (le_of_suc-le-suc h)) (part_of_total f ps k n)

pub capped_small : (n : ℕ) → n ≤ 2147483647 → capped n ≡ n
capped_small n h = omega arith

-- one row's ops are at most all of them
pub row_of_total : (n : ℕ) (w : List ℕ) → (k : ℕ) → k < n → row_ops n w k ≤ op_total n w
row_of_total n w k h =
    let q : entry_of (finished_rows n w) (pairs n w) k
    ≡ outcome n w k = ap (λ (x : Ruled). finished_rows n w x.pair.left x.pair.right)
    (get_d_tabulate n (ruled_at w) k (record { pair = record { left = bnd; right = 0 }; index = 0 }) h) in
    rw (← q) (part_of_total (finished_rows n w) (pairs n w) k n h)

-- ---- refusals

-- a capped total refuses as the total does
pub capped_refusal : (b : Bool) (total loops opRoom loopRoom : ℕ) →
    sizes_refusal b (capped total) loops opRoom loopRoom ≡ sizes_refusal b total loops opRoom loopRoom
capped_refusal b total loops opRoom loopRoom = by b (less_or_not 2147483647 total)
  where
    by : (c : Bool) → (2147483647 < total) ⊎ (total ≤ 2147483647) →
        sizes_refusal c (capped total) loops opRoom loopRoom ≡ sizes_refusal c total loops opRoom loopRoom
    by false h = refl
    by true (inl h) = rw (lt-leb (capped total) 2147483647 (omega arith), lt-leb total 2147483647 h)
    by true (inr h) = ap (λ (n : ℕ). sizes_refusal true n loops opRoom loopRoom) (capped_small total h)

module _ (total loops opRoom loopRoom : ℕ) where
  pub too_many : 2147483647 < total → 14 ≡ sizes_refusal true total loops opRoom loopRoom
  too_many h = rw (lt-leb total 2147483647 h)

  pub no_room : total ≤ 2147483647 → opRoom / 2 < total → 14 ≡ sizes_refusal true total loops opRoom loopRoom
  no_room h l =
      let k : opRoom < 2 * total = omega arith in
      rw (le-leb total 2147483647 h, lt-leb (2 * total) opRoom k)

  pub no_loop_room : total ≤ 2147483647 → total ≤ opRoom / 2 → loopRoom / 2 < loops → 15 ≡ sizes_refusal true total loops opRoom loopRoom
  no_loop_room h l i =
      let k : 2 * total ≤ opRoom = omega arith in
      let j : loopRoom < 2 * loops = omega arith in
      rw (le-leb total 2147483647 h, le-leb (2 * total) opRoom k, lt-leb (2 * loops) loopRoom j)

  pub taken : total ≤ 2147483647 → total ≤ opRoom / 2 → loops ≤ loopRoom / 2 → 0 ≡ sizes_refusal true total loops opRoom loopRoom
  taken h l i =
      let k : 2 * total ≤ opRoom = omega arith in
      let j : 2 * loops ≤ loopRoom = omega arith in
      rw (le-leb total 2147483647 h, le-leb (2 * total) opRoom k, le-leb (2 * loops) loopRoom j)
