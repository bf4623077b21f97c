-- Laws of where a font's own instructions begin and end. Assumes nothing.
use mathlib.Core.Path.{◌≡◌, refl}
use mathlib.Core.Bool.{Bool, true, false, cond}
use mathlib.Core.List.{List}
use mathlib.Core.Logic.{◌⊎◌, inl, inr}
use Prim.Native.Nat.{ℕ, zero, suc, ◌-◌, ◌<◌, ◌≤◌}
use native.Mathlib.Nat.{eq-or-lt_of_le, le_of_suc-le-suc}
use native.Mathlib.Omega.{arith}
use lib.IntN.{ℤ}
use lib.Signed.{non_neg}
use Rattle.lang.specs.Every.{every}
use Rattle.lang.specs.Records.{count, is_kind}
use Rattle.lang.proofs.Every.{every_fails}
use Rattle.font_unpackings.specs.Unpackings.{in_front, own_end, own_start}

-- ---- the redirects in front

module _ (s : List ℤ) where
  front_by : (t : Bool) (m n : ℕ) → m ≤ n → cond t (suc n) m ≤ suc n
  front_by true m n h = omega arith
  front_by false m n h = omega arith

  pub front_le : (n : ℕ) → in_front s n ≤ n
  unfolding in_front
  front_le zero = omega arith
  front_le (suc n) = front_by (every (suc n) (is_kind 3 s)) (in_front s n) n (front_le n)

  -- all are
  pub front_all : (n : ℕ) → every n (is_kind 3 s) ≡ true → in_front s n ≡ n
  unfolding in_front
  front_all zero t = refl
  front_all (suc n) t = rw t

  -- or those before the first that is none
  pub front_to : (n i : ℕ) → every i (is_kind 3 s) ≡ true → is_kind 3 s i ≡ false → i < n → in_front s n ≡ i
  unfolding in_front
  front_to zero i t f h = absurd (omega arith)
  front_to (suc n) i t f h =
      rw (every_fails (suc n) i (is_kind 3 s) h f) (by (eq-or-lt_of_le (le_of_suc-le-suc h)) (front_to n i t f))
    where
      by : (i ≡ n) ⊎ (i < n) → (i < n → in_front s n ≡ i) → in_front s n ≡ i
      by (inl e) k = rw (← e) (front_all i t)
      by (inr l) k = k l

-- ---- where they end

module _ (s : List ℤ) (left : ℤ) where
  end_by : (t : Bool) → cond t (count s - 1) (count s) ≤ count s
  end_by true = omega arith
  end_by false = omega arith

  pub end_le : own_end s left ≤ count s
  end_le = end_by (non_neg left)

  pub start_le : own_start s left ≤ own_end s left
  start_le = front_le s (own_end s left)
