-- What a removal answers, by compile's number.
-- Assumes nothing.
use mathlib.Core.Path.{◌≡◌, refl}
use mathlib.Core.Bool.{Bool}
use Prim.Native.Nat.{ℕ, zero, suc}
use native.Mathlib.Omega.{arith}
use borrow.Author.Tests.{ne_eqb}
use Rattle.removals.specs.declared.Blamed.TheVariants as blamed
use Rattle.removals.specs.Search.{removal_answer}

module _ (i : ℕ) where
  pub by_loop : (n : ℕ) (same : Bool) → n ≡ 15 → blamed.At i ≡ removal_answer i n same
  by_loop n same e = rw e

  pub by_number : (n : ℕ) (same : Bool) → (n ≡ 15 → ⊥) → (n ≡ 0 → ⊥) → blamed.Refused n ≡ removal_answer i n same
  by_number zero same h k = absurd (k refl)
  by_number (suc n) same h k = rw (ne_eqb n 14 (λ e. h (omega (arith, e))))
