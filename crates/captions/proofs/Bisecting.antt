-- On a table whose keys are of the form lefts and rights are in range, and bisection finds every pair, since its keys ascend.
-- Assumes nothing.
use mathlib.Core.Path.{◌≡◌, refl, sym, ap, subst}
use mathlib.Core.Bool.{Bool, true, false, cond}
use mathlib.Core.List.{List}
use mathlib.Core.Logic.{◌⊎◌, inl, inr}
use mathlib.Core.Option.{some}
use Prim.Native.Nat.{ℕ, zero, suc, ◌+◌, ◌-◌, ◌/◌, ◌<◌, ◌≤◌}
use native.Mathlib.Nat.{eq-or-lt_of_le, le_of_suc-le-suc}
use native.Mathlib.Omega.{arith}
use lib.IntN.{ℤ, pos, negsuc}
use lib.Dec.{ltb}
use borrow.Author.Tests.{leb-true, ltb-true, ltb-false, lt-ltb, eqb-true, eq-eqb}
use Rattle.words.specs.Words.{word_of}
use Rattle.words.proofs.Tests.{less_or_not}
use Rattle.lang.specs.Every.{both, every}
use Rattle.lang.specs.Records.{within, absent_or}
use Rattle.lang.proofs.Every.{both_left, both_right, every_at}
use Rattle.lang.proofs.Records.{within_bound}
use Rattle.lang.proofs.Bisection.{Ascends, bisect_finds}
use Rattle.captions.specs.Tables.{pair_count, number, left_place, key_at, find}
use Rattle.captions.specs.Form.{comes_after, key_form}

-- ---- lefts and rights in range

place_small : (z : ℤ) → absent_or 255 z ≡ true → left_place z ≤ 256
place_small (pos m) t = let h = leb-true m 255 t in omega arith
place_small (negsuc m) t = let e = eqb-true m 0 t in rw e (omega arith)

module _ (pairs : List ℤ) (form : every (pair_count pairs) (key_form pairs) ≡ true) where
  pub left_small : (k : ℕ) → k < pair_count pairs → left_place (number pairs k 0) ≤ 256
  left_small k h =
      place_small (number pairs k 0)
      (both_left (absent_or 255 (number pairs k 0)) (both (within 255 (number pairs k 1)) (comes_after pairs k))
      (every_at (pair_count pairs) k (key_form pairs) form h))

  -- a right is a character
  pub right_small : (k : ℕ) → k < pair_count pairs → word_of (number pairs k 1) ≤ 255
  right_small k h =
      let t = every_at (pair_count pairs) k (key_form pairs) form h in
      let u = both_right (absent_or 255 (number pairs k 0)) (both (within 255 (number pairs k 1)) (comes_after pairs k)) t in
      within_bound 255 (number pairs k 1) (both_left (within 255 (number pairs k 1)) (comes_after pairs k) u)

-- ---- ascending keys

abbrev pub KeysAscend : List ℤ → Type 0
KeysAscend pairs = Ascends (key_at pairs) (pair_count pairs)

module _ (pairs : List ℤ) (form : every (pair_count pairs) (key_form pairs) ≡ true) where
  next_ascends : (j : ℕ) → suc j < pair_count pairs → key_at pairs j < key_at pairs (suc j)
  next_ascends j h =
      let t = every_at (pair_count pairs) (suc j) (key_form pairs) form h in
      let u = both_right (absent_or 255 (number pairs (suc j) 0)) (both (within 255 (number pairs (suc j) 1)) (comes_after pairs (suc j))) t in
      ltb-true (key_at pairs j) (key_at pairs (suc j)) (both_right (within 255 (number pairs (suc j) 1)) (comes_after pairs (suc j)) u)

  ascend_by : (i j : ℕ) → suc j < pair_count pairs → (i < j → key_at pairs i < key_at pairs j) → (i ≡ j) ⊎ (i < j) → key_at pairs i < key_at pairs (suc j)
  ascend_by i j l h (inl e) = subst (λ (n : ℕ). key_at pairs n < key_at pairs (suc j)) (sym e) (next_ascends j l)
  ascend_by i j l h (inr k) = omega (arith, next_ascends j l, h k)

  pub keys_ascend : KeysAscend pairs
  keys_ascend i zero h l = absurd (omega arith)
  keys_ascend i (suc j) h l = ascend_by i j l (λ k. keys_ascend i j k (omega arith)) (eq-or-lt_of_le (le_of_suc-le-suc h))

-- ---- the search

pub finds : (pairs : List ℤ) → every (pair_count pairs) (key_form pairs) ≡ true → (k : ℕ) → k < pair_count pairs → find pairs (key_at pairs k) ≡ some k
finds pairs form k h = bisect_finds (key_at pairs) (pair_count pairs) (keys_ascend pairs form) k h
