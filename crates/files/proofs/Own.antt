-- Laws of a font's own instructions, their kerns shared: each that can be written can be read again.
-- Assumes nothing.
use mathlib.Core.Path.{◌≡◌, refl, sym, ap, ◌∙◌}
use mathlib.Core.Bool.{Bool, true, false, cond, not}
use mathlib.Core.List.{List}
use mathlib.Core.Logic.{◌⊎◌, inl, inr}
use Prim.Native.Nat.{ℕ, ◌^◌, ◌<◌}
use native.Mathlib.Omega.{arith}
use lib.IntN.{ℤ, pos, negsuc}
use lib.Dec.{ltb, eqb}
use lib.ListN.{length}
use mir.Syntax.{w32}
use mir.Val.{SFits}
use borrow.Author.Tests.{eqb-true, not-true}
use Rattle.words.specs.Words.{word_of, number_of}
use Rattle.words.proofs.Bits.{number_word, number_pos}
use Rattle.lang.specs.Every.{both}
use Rattle.lang.specs.Records.{count, field, is_kind, absent_or, within, operand_fits}
use Rattle.lang.specs.Checks.{program_refusal}
use Rattle.lang.proofs.Every.{both_left, both_right}
use Rattle.lang.proofs.Records.{within_bound}
use Rattle.lang.proofs.Refusals.{program_record}
use Rattle.program_kerns.specs.Kerns.{packed, kern_place, kerns_of}
use Rattle.files.specs.Writing.{is_writable}
use Rattle.files.specs.Purpose.{AreI32}
use Rattle.files.proofs.Kerns.{fits_field}
use Rattle.files.proofs.Shared.{shared_by, shared_first, shared_kern, shared_other, shared_index, kerns_few}
use Rattle.files.proofs.Program.{kerns, ligates, readable_same}
use Rattle.files.proofs.Packed.{ReadableAt}

-- ---- numbers by their words

pub within_pos : (n : ℕ) (z : ℤ) → within n z ≡ true → z ≡ pos (word_of z)
within_pos n (pos m) t = refl
within_pos n (negsuc m) t = absurd (let z : ◌≡◌ {A = ℕ} 0 1 = cc in omega arith)

word_is : (z : ℤ) (k : ℕ) → SFits w32 z → word_of z ≡ k → k < 2 ^ 31 → z ≡ pos k
word_is z k f e h = sym (number_word z f) ∙ ap number_of e ∙ number_pos k h

-- an operand that fits, of none of three kinds, is a ligature's
ligature_by : (a : Bool) (z : ℤ) → cond a (within 32767 z) false ≡ true → (a ≡ true) × (within 32767 z ≡ true)
ligature_by true z t = (refl, t)
ligature_by false z t = absurd (let z : ◌≡◌ {A = ℕ} 0 1 = cc in omega arith)

ligature_fits : (k : ℕ) (z : ℤ) → eqb k 0 ≡ false → eqb k 1 ≡ false → eqb k 3 ≡ false → operand_fits k z ≡ true → (eqb k 2 ≡ true) × (within 32767 z ≡ true)
ligature_fits k z a b c t = ligature_by (eqb k 2) z (rw (a, b, c) at t)

-- ---- instruction i

module _ (s ks : List ℤ) (are : AreI32 s) (ok : program_refusal s ≡ 0) (i : ℕ) (h : i < count s) (writable : is_writable s ks i ≡ true) where
  abbrev rest : Bool
  rest = cond (is_kind 1 s i) (ltb (word_of (field s i 3)) (length ks)) true

  pub own_plain : is_kind 3 s i ≡ false
  own_plain = not-true (is_kind 3 s i) (both_left (not (is_kind 3 s i)) (both (absent_or 127 (field s i 0)) rest) writable)

  pub own_next : absent_or 127 (field s i 0) ≡ true
  own_next = both_left (absent_or 127 (field s i 0)) rest (both_right (not (is_kind 3 s i)) (both (absent_or 127 (field s i 0)) rest) writable)

  parts : both (within 255 (field s i 1)) (operand_fits (word_of (field s i 2)) (field s i 3)) ≡ true
  parts =
      both_right (absent_or 255 (field s i 0)) (both (within 255 (field s i 1)) (operand_fits (word_of (field s i 2)) (field s i 3))) (program_record s ok i h)

  own_right : within 255 (field s i 1) ≡ true
  own_right = both_left (within 255 (field s i 1)) (operand_fits (word_of (field s i 2)) (field s i 3)) parts

  own_operand : operand_fits (word_of (field s i 2)) (field s i 3) ≡ true
  own_operand = both_right (within 255 (field s i 1)) (operand_fits (word_of (field s i 2)) (field s i 3)) parts

  first_same : field s i 0 ≡ field (shared_by s ks) i 0
  first_same = sym (shared_first s ks i h 0 (omega arith))

  right_same : pos (word_of (field s i 1)) ≡ field (shared_by s ks) i 1
  right_same = sym (shared_first s ks i h 1 (omega arith) ∙ within_pos 255 (field s i 1) own_right)

  kern_readable : (is_kind 0 s i ≡ true) ⊎ (is_kind 1 s i ≡ true) → ReadableAt (shared_by s ks) i
  kern_readable k =
      let v = shared_kern s ks i h k in
      let a : is_kind 1 (shared_by s ks) i ≡ true = ap (λ (z : ℤ). eqb (word_of z) 1) v.0 in
      let b : kern_place (field (packed s ks) i 3) (kerns_of (packed s ks)) < length (kerns_of (packed s ks)) = rw v.1 at (shared_index s ks i h a) in
      readable_same first_same right_same (sym v.0) (sym v.1)
      (kerns (field s i 0) (word_of (field s i 1)) (kern_place (field (packed s ks) i 3) (kerns_of (packed s ks))) own_next
      (within_bound 255 (field s i 1) own_right) (omega (arith, kerns_few s ks ok)))

  ligature_readable : is_kind 0 s i ≡ false → is_kind 1 s i ≡ false → ReadableAt (shared_by s ks) i
  ligature_readable a b =
      let v = ligature_fits (word_of (field s i 2)) (field s i 3) a b own_plain own_operand in
      let k : field s i 2 ≡ pos 2 = word_is (field s i 2) 2 (fits_field s are i 2) (eqb-true (word_of (field s i 2)) 2 v.0) (omega arith) in
      readable_same first_same right_same (sym (shared_other s ks i h a b 2 (omega arith) ∙ k))
      (sym (shared_other s ks i h a b 3 (omega arith) ∙ within_pos 32767 (field s i 3) v.1))
      (ligates (field s i 0) (word_of (field s i 1)) (word_of (field s i 3)) own_next
      (within_bound 255 (field s i 1) own_right) (within_bound 32767 (field s i 3) v.1))

  pub own_readable : ReadableAt (shared_by s ks) i
  own_readable = by (is_kind 0 s i) (is_kind 1 s i) refl refl
    where
      by : (a b : Bool) → is_kind 0 s i ≡ a → is_kind 1 s i ≡ b → ReadableAt (shared_by s ks) i
      by true b e g = kern_readable (inl e)
      by false true e g = kern_readable (inr g)
      by false false e g = ligature_readable e g
