-- A character in octal, and lines of three parts.
-- Assumes nothing.
use mathlib.Core.Path.{◌≡◌}
use mathlib.Core.List.{List, [], ◌∷◌, ◌++◌}
use Prim.Native.Nat.{ℕ, ◌+◌, ◌/◌, ◌%◌, ◌<◌, ◌≤◌, min}
use lib.ListN.{length}
use borrow.Author.Tests.{eq-eqb, ne_eqb}
use Rattle.words.specs.Words.{number_of}
use Rattle.words.proofs.Bits.{number_pos, number_neg}
use Rattle.property_lists.specs.Putting.{PutsCounted}
use Rattle.property_lists.specs.Displays.{leading_octal, octal_char, line_end, boundary_line}
use Rattle.property_lists.proofs.Putting.{counted_none, counted_more}

-- ---- characters

pub octal_none : (out : List ℕ) (at n : ℕ) {r : ℕ} → n ≡ 0 → r ≡ min at (length out + 1) → PutsCounted out at (leading_octal n) r out
octal_none out at n e g = rw (eq-eqb n 0 e) (counted_none out at g)

pub octal_one : (n : ℕ) {out : List ℕ} {at r : ℕ} {d : List ℕ} → (n ≡ 0 → ⊥) → PutsCounted out at ((48 + n % 8) ∷ []) r d →
    PutsCounted out at (leading_octal n) r d
octal_one n h p = rw (ne_eqb n 0 h) p

pub char_put : (c : ℕ) {out : List ℕ} {at : ℕ} {a b e r : ℕ} {out₁ out₂ out₃ out₄ : List ℕ} → PutsCounted out at (32 ∷ 79 ∷ 32 ∷ []) a out₁ →
    PutsCounted out₁ a (leading_octal (c / 64)) b out₂ → PutsCounted out₂ b (leading_octal (c / 8)) e out₃ →
    PutsCounted out₃ e ((48 + c % 8) ∷ []) r out₄ → PutsCounted out at (octal_char c) r out₄
char_put c p q s t = counted_more p (counted_more q (counted_more s t))

-- ---- properties of three parts: what stands before a value, the value and the line's end

pub three_put : {xs ys : List ℕ} {out : List ℕ} {at : ℕ} {a b r : ℕ} {out₁ out₂ out₃ : List ℕ} → PutsCounted out at xs a out₁ →
    PutsCounted out₁ a ys b out₂ → PutsCounted out₂ b line_end r out₃ → PutsCounted out at (xs ++ (ys ++ line_end)) r out₃
three_put p q s = counted_more p (counted_more q s)

-- ---- the boundary character

pub absent_put : (out : List ℕ) (at w : ℕ) {r : ℕ} → 2147483648 ≤ w → r ≡ min at (length out + 1) → PutsCounted out at (boundary_line (number_of w)) r out
absent_put out at w h g = rw (number_neg w h) (counted_none out at g)

pub boundary_put : (c : ℕ) {out : List ℕ} {at : ℕ} {a b r : ℕ} {out₁ out₂ out₃ : List ℕ} → c < 2147483648 →
    PutsCounted out at (40 ∷ 66 ∷ 79 ∷ 85 ∷ 78 ∷ 68 ∷ 65 ∷ 82 ∷ 89 ∷ 67 ∷ 72 ∷ 65 ∷ 82 ∷ []) a out₁ →
    PutsCounted out₁ a (octal_char c) b out₂ → PutsCounted out₂ b line_end r out₃ → PutsCounted out at (boundary_line (number_of c)) r out₃
boundary_put c h p q s = rw (number_pos c h) (three_put p q s)
