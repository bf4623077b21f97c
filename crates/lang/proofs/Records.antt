-- Laws of the numbers of an instruction, read off the 32 bits that the code computes with.
-- Assumes nothing.
use mathlib.Core.Path.{◌≡◌, refl, sym, ap, ◌∙◌}
use mathlib.Core.Bool.{Bool, true, false}
use mathlib.Core.List.{List}
use mathlib.Core.Logic.{◌⊎◌, inl, inr}
use Prim.Native.Nat.{ℕ, suc, ◌-◌, ◌/◌, ◌%◌, ◌^◌, ◌<◌, ◌≤◌}
use native.Mathlib.Omega.{arith}
use lib.IntN.{ℤ, pos, negsuc}
use lib.Dec.{leb, ltb, eqb}
use borrow.Author.Tests.{ltb-true, ltb-false, lt-leb, leb-true, eq-eqb, ne_eqb, eqb-true, eqb-false}
use mir.Syntax.{w32}
use mir.Val.{of_z, to_z, SFits}
use mir.ValLaws.{to_z-of_z}
use Rattle.std.specs.Prelude.{None, Some, Option}
use Rattle.words.specs.Words.{Word, word_of, number_of}
use Rattle.words.proofs.Bits.{number_pos, number_neg, number_is, number_fits, word_number}
use Rattle.lang.specs.declared.operation.Operation.{Operation}
use Rattle.lang.specs.declared.operation.Operation.TheVariants.{Kern, KernAtIndex, EntrypointRedirect}
use Rattle.lang.specs.declared.instruction.Instruction.{Instruction}
use Rattle.lang.specs.Operations.{from_bytes}
use Rattle.lang.specs.Records.{field, next_of, operation_of, instruction_at, within, absent_or, operand_fits}

-- ---- words that were read

-- the word of a number that was passed to `word_of`
pub word_passed : {x : ℤ} {w : ℕ} → SFits w32 x → w ≡ word_of (to_z w32 (of_z w32 x)) → Word x w
word_passed {x} f e = record { is = e ∙ ap word_of (to_z-of_z w32 x f); fits = f }

-- a number that was made of a word, and is stored in a struct
pub number_stored : (w : ℕ) (z : ℤ) → z ≡ number_of w → w < 2 ^ 32 → to_z w32 (of_z w32 z) ≡ number_of w
number_stored w z e l = rw e (to_z-of_z w32 (number_of w) (number_fits w l))

-- a test of the number that a word stands for is the test of the number
pub tested : (f : ℤ → Bool) {z : ℤ} {w : ℕ} {r t : Bool} → Word z w → r ≡ f (number_of w) → r ≡ t → f z ≡ t
tested f q e h = sym (ap f (number_is q)) ∙ sym e ∙ h

-- ---- ranges

-- two tests of equality that hold together
pub eqb_both : (a b c d : ℕ) → (a ≡ b → c ≡ d) → (c ≡ d → a ≡ b) → eqb a b ≡ eqb c d
eqb_both a b c d f g = go (eqb a b) refl
  where
    go : (t : Bool) → eqb a b ≡ t → t ≡ eqb c d
    go true e = sym (eq-eqb c d (f (eqb-true a b e)))
    go false e = sym (ne_eqb c d (λ h. eqb-false a b e (g h)))

-- a word below 2 ^ 31 is a number from 0 on, any other a negative one
sign : (w : ℕ) → (w < 2 ^ 31) ⊎ (2 ^ 31 ≤ w)
sign w = go (ltb w (2 ^ 31)) refl
  where
    go : (t : Bool) → ltb w (2 ^ 31) ≡ t → (w < 2 ^ 31) ⊎ (2 ^ 31 ≤ w)
    go true e = inl (ltb-true w (2 ^ 31) e)
    go false e = inr (ltb-false w (2 ^ 31) e)

-- the ranges of the definitions, by the word
pub within_word : (n w : ℕ) → n < 2 ^ 31 → within n (number_of w) ≡ leb w n
within_word n w h = go (sign w)
  where
    go : (w < 2 ^ 31) ⊎ (2 ^ 31 ≤ w) → within n (number_of w) ≡ leb w n
    go (inl l) = rw (number_pos w l)
    go (inr l) = rw (number_neg w l) (sym (lt-leb w n (omega arith)))

pub absent_within : (n w : ℕ) → n < 2 ^ 31 → w ≤ n → absent_or n (number_of w) ≡ leb w n
absent_within n w h l = rw (number_pos w (omega arith))

pub absent_past : (n w : ℕ) → n < w → w < 2 ^ 32 → absent_or n (number_of w) ≡ eqb w 4294967295
absent_past n w h f = go (sign w)
  where
    go : (w < 2 ^ 31) ⊎ (2 ^ 31 ≤ w) → absent_or n (number_of w) ≡ eqb w 4294967295
    go (inl l) = rw (number_pos w l, lt-leb w n h) (sym (ne_eqb w 4294967295 (omega arith)))
    go (inr l) = rw (number_neg w l) (eqb_both (2 ^ 32 - suc w) 0 w 4294967295 (λ e. omega arith) (λ e. omega arith))

-- the same, of a word that was read
pub within_read : (n : ℕ) {z : ℤ} {w : ℕ} → Word z w → n < 2 ^ 31 → within n z ≡ leb w n
within_read n {w = w} q h = ap (within n) (sym (number_is q)) ∙ within_word n w h

-- a number in range is its own word
pub within_bound : (n : ℕ) (z : ℤ) → within n z ≡ true → word_of z ≤ n
within_bound n (pos m) t = leb-true m n t
within_bound n (negsuc m) t = absurd (let z : ◌≡◌ {A = ℕ} 0 1 = cc in omega arith)

-- ---- the parts of an instruction

pub next_skip : (w : ℕ) → w < 2 ^ 31 → next_of (number_of w) ≡ Some (w % 256)
next_skip w h = rw (number_pos w h)

pub next_stop : (w : ℕ) → 2 ^ 31 ≤ w → next_of (number_of w) ≡ None
next_stop w h = rw (number_neg w h)

module _ (kind w : ℕ) where
  pub operation_index : kind ≡ 1 → w < 2 ^ 32 → operation_of kind (number_of w) ≡ KernAtIndex (w % 65536)
  operation_index e l = rw (e, word_number w l)

  pub operation_ligature : kind ≡ 2 → w < 2 ^ 32 → operation_of kind (number_of w) ≡ from_bytes (w / 256 % 128) (w % 256)
  operation_ligature e l = rw (e, word_number w l)

  pub operation_redirect : kind ≡ 3 → w < 2 ^ 32 → operation_of kind (number_of w) ≡ EntrypointRedirect (w % 65536) (eqb (w / 65536 % 2) 1)
  operation_redirect e l = rw (e, word_number w l)

  pub operation_kern : (kind ≡ 1 → ⊥) → (kind ≡ 2 → ⊥) → (kind ≡ 3 → ⊥) → operation_of kind (number_of w) ≡ Kern (record { 0 = number_of w })
  operation_kern p q r = rw (ne_eqb kind 1 p, ne_eqb kind 2 q, ne_eqb kind 3 r)

-- a kind past 3 has no operand
pub operand_none : (kind : ℕ) (z : ℤ) → (kind ≡ 0 → ⊥) → (kind ≡ 1 → ⊥) → (kind ≡ 2 → ⊥) → (kind ≡ 3 → ⊥) → operand_fits kind z ≡ false
operand_none kind z o p q r = rw (ne_eqb kind 0 o, ne_eqb kind 1 p, ne_eqb kind 2 q, ne_eqb kind 3 r)

pub operand_read : {y z : ℤ} {v w : ℕ} → Word y v → Word z w → operand_fits v (number_of w) ≡ operand_fits (word_of y) z
operand_read p q = rw (number_is q, p.is)

-- ---- the whole instruction, from the words of its four numbers

module _ (s : List ℤ) (i w₀ w₁ w₂ w₃ : ℕ) (r₀ : Word (field s i 0) w₀) (r₁ : Word (field s i 1) w₁) (r₂ : Word (field s i 2) w₂) (r₃ : Word (field s i 3) w₃)
  where
    pub instruction_is : (n : Option ℕ) (o : Operation) → n ≡ next_of (number_of w₀) → o ≡ operation_of w₂ (number_of w₃) →
        ◌≡◌ {A = Instruction} (record { next_instruction = n; right_char = record { 0 = w₁ % 256 }; operation = o }) (instruction_at s i)
    instruction_is n o e f = rw (e, f, number_is r₀, number_is r₃, r₁.is, r₂.is)
