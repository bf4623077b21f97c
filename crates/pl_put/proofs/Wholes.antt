-- Bytes one after the other: a byte repeated, and a whole number.
-- Assumes nothing.
use mathlib.Core.Path.{◌≡◌}
use mathlib.Core.List.{List, [], ◌∷◌}
use Prim.Native.Nat.{ℕ, ◌+◌, ◌/◌, ◌%◌, min}
use lib.ListN.{length, replicate, replicate-append-replicate}
use borrow.Author.Tests.{eq-eqb, ne_eqb}
use Rattle.points.specs.Printing.{leading_digit, whole_text}
use Rattle.property_lists.specs.Putting.{PutsCounted}
use Rattle.property_lists.proofs.Putting.{counted_none, counted_more}

pub repeated_more : (b i : ℕ) {out : List ℕ} {at m : ℕ} {d : List ℕ} {r : ℕ} {d' : List ℕ} → PutsCounted out at (replicate i b) m d →
    PutsCounted d m (b ∷ []) r d' → PutsCounted out at (replicate (i + 1) b) r d'
repeated_more b i p q = rw (← replicate-append-replicate i 1 b) (counted_more p q)

pub repeated_all : (b i n : ℕ) {out : List ℕ} {at m : ℕ} {d : List ℕ} → i ≡ n → PutsCounted out at (replicate i b) m d →
    PutsCounted out at (replicate n b) m d
repeated_all b i n e p = rw e at p

pub leading_none : (out : List ℕ) (at n : ℕ) {r : ℕ} → n ≡ 0 → r ≡ min at (length out + 1) → PutsCounted out at (leading_digit n) r out
leading_none out at n e g = rw (eq-eqb n 0 e) (counted_none out at g)

pub leading_one : (n : ℕ) {out : List ℕ} {at r : ℕ} {d : List ℕ} → (n ≡ 0 → ⊥) → PutsCounted out at ((48 + n % 10) ∷ []) r d →
    PutsCounted out at (leading_digit n) r d
leading_one n h p = rw (ne_eqb n 0 h) p

pub whole_put : (n : ℕ) {out : List ℕ} {at : ℕ} {a b c d e : ℕ} {out₁ out₂ out₃ out₄ out₅ : List ℕ} →
    PutsCounted out at (leading_digit (n / 10 / 10 / 10 / 10)) a out₁ →
    PutsCounted out₁ a (leading_digit (n / 10 / 10 / 10)) b out₂ →
    PutsCounted out₂ b (leading_digit (n / 10 / 10)) c out₃ →
    PutsCounted out₃ c (leading_digit (n / 10)) d out₄ →
    PutsCounted out₄ d ((48 + n % 10) ∷ []) e out₅ →
    PutsCounted out at (whole_text n) e out₅
whole_put n p₁ p₂ p₃ p₄ p₅ = counted_more p₁ (counted_more p₂ (counted_more p₃ (counted_more p₄ p₅)))
