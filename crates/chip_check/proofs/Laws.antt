-- The letters of a chip's word, and numbers or-ed together.
-- Assumes nothing.
use mathlib.Core.Path.{◌≡◌, refl, sym, ap, ◌∙◌}
use mathlib.Core.Bool.{Bool, true, false}
use mathlib.Core.List.{List, [], ◌∷◌, map}
use Prim.Native.Nat.{ℕ, suc, ◌+◌, ◌^◌, ◌<◌}
use native.Mathlib.Omega.{arith}
use lib.Bits.{bit_or, and_le_l, and_le_r, or_lt, or_add_and}
use lib.Dec.{leb}
use lib.ListN.{length, get_or}
use borrow.Author.Tests.{le-leb, lt-leb, leb-true, leb-false}
use Rattle.lang.specs.Every.{both, every}
use Rattle.lang.proofs.Every.{every_step}

-- ---- the letters of a chip

-- an array's length, as it is known of a parameter
pub array_long : (n : ℕ) (l : List ℕ) → length (map (λ (v : ℕ). v) l) ≡ n → length l ≡ n
array_long n l e = sym (go l) ∙ e
  where
    go : (m : List ℕ) → length (map (λ (v : ℕ). v) m) ≡ length m
    go [] = refl
    go (x ∷ xs) = ap suc (go xs)

-- ---- numbers or-ed together: m is all of the low k bits

module _ (k m : ℕ) (low : 2 ^ k ≡ suc m) where
  within : (a : ℕ) → leb a m ≡ true → a < 2 ^ k
  within a p = omega (arith, low, leb-true a m p)

  or_by : (a b : ℕ) (t u : Bool) → leb a m ≡ t → leb b m ≡ u → leb (bit_or a b) m ≡ both t u
  or_by a b true true p q = le-leb (bit_or a b) m (omega (arith, low, or_lt k a b (within a p) (within b q)))
  or_by a b true false p q = lt-leb (bit_or a b) m (omega (arith, leb-false b m q, or_add_and a b, and_le_l a b))
  or_by a b false u p q = lt-leb (bit_or a b) m (omega (arith, leb-false a m p, or_add_and a b, and_le_r a b))

  -- one number more
  pub or_more : (word : List ℕ) (i all : ℕ) → leb all m ≡ every i (λ j. leb (get_or word j 0) m) →
      leb (bit_or all (get_or word i 0)) m ≡ every (i + 1) (λ j. leb (get_or word j 0) m)
  or_more word i all e =
      or_by all (get_or word i 0) (leb all m) (leb (get_or word i 0) m) refl refl
      ∙ ap (λ (t : Bool). both t (leb (get_or word i 0) m)) e
      ∙ sym (every_step i (λ j. leb (get_or word j 0) m))
