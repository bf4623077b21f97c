-- Laws of `both` and `every`: a test that every index below a number passes.
-- Assumes nothing.
use mathlib.Core.Path.{◌≡◌, refl, ◌∙◌}
use mathlib.Core.Bool.{Bool, true, false}
use mathlib.Core.Logic.{◌⊎◌, inl, inr}
use Prim.Native.Nat.{ℕ, zero, suc, ◌+◌, ◌<◌, ◌≤◌}
use native.Mathlib.Nat.{eq-or-lt_of_le, le_of_suc-le-suc}
use native.Mathlib.Numerals.{add-one}
use native.Mathlib.Omega.{arith}
use Rattle.lang.specs.Every.{both, every}

-- ---- both

pub both_left : (a b : Bool) → both a b ≡ true → a ≡ true
both_left true b e = refl
both_left false b e = e

pub both_right : (a b : Bool) → both a b ≡ true → b ≡ true
both_right true b e = e
both_right false b e = cc

pub both_true : (a : Bool) → both a true ≡ a
both_true true = refl
both_true false = refl

pub both_false : (a : Bool) → both a false ≡ false
both_false true = refl
both_false false = refl

-- ---- every

-- one index more, as a loop that counts up tries it
pub every_step : (n : ℕ) (p : ℕ → Bool) → every (n + 1) p ≡ both (every n p) (p n)
unfolding every
every_step n p = rw add-one

pub every_none : (p : ℕ → Bool) → every 0 p ≡ true
unfolding every
every_none p = refl

pub every_more : (n : ℕ) (p : ℕ → Bool) → every n p ≡ true → p n ≡ true → every (n + 1) p ≡ true
every_more n p e q = every_step n p ∙ rw (e, q)

-- an index below n fails: not every one passes
fails_by : (n i : ℕ) (p : ℕ → Bool) → (i ≡ n) ⊎ (i < n) → p i ≡ false → (i < n → every n p ≡ false) → both (every n p) (p n) ≡ false
fails_by n i p (inl e) q k = rw (← e, q) (both_false (every i p))
fails_by n i p (inr h) q k = rw (k h)

pub every_fails : (n i : ℕ) (p : ℕ → Bool) → i < n → p i ≡ false → every n p ≡ false
unfolding every
every_fails zero i p h q = absurd (omega arith)
every_fails (suc n) i p h q = fails_by n i p (eq-or-lt_of_le (le_of_suc-le-suc h)) q (λ l. every_fails n i p l q)

-- every index below n passes: each of them does
at_by : (n i : ℕ) (p : ℕ → Bool) → (i ≡ n) ⊎ (i < n) → both (every n p) (p n) ≡ true → (every n p ≡ true → i < n → p i ≡ true) → p i ≡ true
at_by n i p (inl e) t k = rw e (both_right (every n p) (p n) t)
at_by n i p (inr h) t k = k (both_left (every n p) (p n) t) h

pub every_at : (n i : ℕ) (p : ℕ → Bool) → every n p ≡ true → i < n → p i ≡ true
unfolding every
every_at zero i p t h = absurd (omega arith)
every_at (suc n) i p t h = at_by n i p (eq-or-lt_of_le (le_of_suc-le-suc h)) t (every_at n i p)

-- each index below n passes: every one does
pub every_all : (n : ℕ) (p : ℕ → Bool) → ((i : ℕ) → i < n → p i ≡ true) → every n p ≡ true
unfolding every
every_all zero p h = refl
every_all (suc n) p h = rw (every_all n p (λ i l. h i (omega arith)), h n (omega arith))

-- two tests that agree below n
pub every_ext : (n : ℕ) (p q : ℕ → Bool) → ((i : ℕ) → i < n → p i ≡ q i) → every n p ≡ every n q
unfolding every
every_ext zero p q h = refl
every_ext (suc n) p q h = rw (every_ext n p q (λ i l. h i (omega arith)), h n (omega arith))

-- a loop that has passed every index, and has come to the end
pub every_to : (n i : ℕ) (p : ℕ → Bool) → every i p ≡ true → i ≤ n → n ≤ i → every n p ≡ true
every_to n i p t h l = let e : n ≡ i = omega arith in rw e t
