-- How many numbers below n a function takes to s: where one value changes, and where none does.
-- Assumes nothing.
use mathlib.Core.Path.{◌≡◌, refl, ap, ◌∙◌}
use mathlib.Core.Bool.{Bool, true, false}
use mathlib.Core.Logic.{◌⊎◌, inl, inr}
use Prim.Native.Nat.{ℕ, zero, suc, ◌+◌, ◌<◌, ◌≤◌}
use native.Mathlib.Nat.{eq-or-lt_of_le, le_of_suc-le-suc}
use native.Mathlib.Omega.{arith}
use lib.Dec.{eqb}
use borrow.Author.Tests.{eq-eqb, ne_eqb}
use Rattle.compiling.specs.SettledRows.{bit}
use Rattle.compiling.specs.SettleSteps.{tally}

bit_few : (b : Bool) → bit b ≤ 1
bit_few true = omega arith
bit_few false = omega arith

pub tally_few : (g : ℕ → ℕ) (s n : ℕ) → tally g s n ≤ n
unfolding tally
tally_few g s zero = omega arith
tally_few g s (suc n) = omega (arith, tally_few g s n, bit_few (eqb (g n) s))

less_by : (g : ℕ → ℕ) (s n j : ℕ) → (j < n → tally g s n < n) → (g j ≡ s → ⊥) → (j ≡ n) ⊎ (j < n) → tally g s n + bit (eqb (g n) s) < suc n
less_by g s n j h ne (inl e) = rw (ne_eqb (g n) s (λ i. ne (ap g e ∙ i))) (omega (arith, tally_few g s n))
less_by g s n j h ne (inr l) = omega (arith, h l, bit_few (eqb (g n) s))

-- where one is not taken to s, fewer than n are
pub tally_less : (g : ℕ → ℕ) (s n j : ℕ) → j < n → (g j ≡ s → ⊥) → tally g s n < n
unfolding tally
tally_less g s zero j h ne = absurd (omega arith)
tally_less g s (suc n) j h ne = less_by g s n j (λ l. tally_less g s n j l ne) ne (eq-or-lt_of_le (le_of_suc-le-suc h))

pub tally_same : (g g' : ℕ → ℕ) (s n : ℕ) → ((k : ℕ) → k < n → eqb (g' k) s ≡ eqb (g k) s) → tally g' s n ≡ tally g s n
unfolding tally
tally_same g g' s zero e = refl
tally_same g g' s (suc n) e = rw (tally_same g g' s n (λ k h. e k (omega arith)), e n (omega arith))

pub tally_none : (g : ℕ → ℕ) (s n : ℕ) → ((k : ℕ) → k < n → g k ≡ s → ⊥) → tally g s n ≡ 0
unfolding tally
tally_none g s zero e = refl
tally_none g s (suc n) e = rw (tally_none g s n (λ k h. e k (omega arith)), ne_eqb (g n) s (e n (omega arith)))

-- where g' differs from g at j alone
module _ (g g' : ℕ → ℕ) (s j : ℕ) where
  change_by_lem : (n : ℕ) → (j < n → tally g' s n + bit (eqb (g j) s) ≡ tally g s n + bit (eqb (g' j) s)) → ((k : ℕ) → k < suc n → (k ≡ j → ⊥) → g' k ≡ g k) →
      (j ≡ n) ⊎ (j < n) → tally g' s n + bit (eqb (g' n) s) + bit (eqb (g j) s) ≡ tally g s n + bit (eqb (g n) s) + bit (eqb (g' j) s)
  change_by_lem n h e (inl i) =
      let t : tally g' s n ≡ tally g s n = tally_same g g' s n (λ k l. ap (λ v. eqb v s) (e k (omega arith) (λ x. omega arith))) in
      rw (i, t) (omega arith)
  change_by_lem n h e (inr l) =
      let t : bit (eqb (g' n) s) ≡ bit (eqb (g n) s) = ap (λ v. bit (eqb v s)) (e n (omega arith) (λ x. omega arith)) in
      omega (arith, h l)

  change : (n : ℕ) → j < n → ((k : ℕ) → k < n → (k ≡ j → ⊥) → g' k ≡ g k) → tally g' s n + bit (eqb (g j) s) ≡ tally g s n + bit (eqb (g' j) s)
  unfolding tally
  change zero h e = absurd (omega arith)
  change (suc n) h e = change_by_lem n (λ l. change n l (λ k i. e k (omega arith))) e (eq-or-lt_of_le (le_of_suc-le-suc h))

  module _ (n : ℕ) (h : j < n) (e : (k : ℕ) → k < n → (k ≡ j → ⊥) → g' k ≡ g k) where
    pub tally_up : (g j ≡ s → ⊥) → g' j ≡ s → tally g' s n ≡ suc (tally g s n)
    tally_up a b = omega (arith, rw (ne_eqb (g j) s a, eq-eqb (g' j) s b) at (change n h e))

    pub tally_down : g j ≡ s → (g' j ≡ s → ⊥) → suc (tally g' s n) ≡ tally g s n
    tally_down a b = omega (arith, rw (eq-eqb (g j) s a, ne_eqb (g' j) s b) at (change n h e))

    pub tally_still : (g j ≡ s → ⊥) → (g' j ≡ s → ⊥) → tally g' s n ≡ tally g s n
    tally_still a b = omega (arith, rw (ne_eqb (g j) s a, ne_eqb (g' j) s b) at (change n h e))
