-- The repaired font, lent again, is not refused: its numbers are in fours and are as many, and each step that is repaired is an instruction.
-- Assumes nothing.
use mathlib.Core.Path.{◌≡◌, refl, sym, ap, ◌∙◌, subst}
use mathlib.Core.Bool.{Bool, true, false, cond}
use mathlib.Core.List.{List}
use Prim.Native.Nat.{ℕ, zero, suc, ◌+◌, ◌*◌, ◌/◌, ◌%◌, ◌<◌, ◌≤◌}
use native.Mathlib.Omega.{arith}
use lib.IntN.{ℤ, pos, negsuc}
use lib.Dec.{leb, eqb}
use lib.ListN.{length}
use borrow.Author.Tests.{eqb-true, eq-eqb, leb-true, le-leb}
use Rattle.words.specs.Words.{word_of}
use Rattle.words.proofs.Lists.{length_tabulate}
use Rattle.lang.specs.Every.{both, every}
use Rattle.lang.specs.Records.{count, field, is_instruction, within, absent_or, operand_fits}
use Rattle.lang.specs.Checks.{program_refusal, size_refusal, record_refusal, kerns_refusal, entries_refusal, absent_refusal, passthrough_refusal, or_else, unless}
use Rattle.lang.proofs.Every.{every_all}
use Rattle.lang.proofs.Refusals.{second_is, unless_none, program_size, program_record}
use Rattle.repairs.specs.Damaged.{Damaged, program_of, passed_over, left_goes, repaired_left, repaired_passthrough}
use Rattle.repairs.specs.Repaired.{skip_goes, right_goes, kern_goes, product_goes, tag_goes, repaired_kind, repaired_instructions}
use Rattle.repairs.specs.Purpose.{TakenAgain}
use Rattle.repairs.proofs.Steps.{length_upto, same_count, field_repaired}
use Rattle.repairs.proofs.Kept.{next_fits, right_fits, operand_fits_lem, ligature_fits}

-- ---- of plain values

-- -1 in the place of a number that is absent or within a range, and a character in the place of one
absent_fits : (n : ℕ) (t : Bool) (z : ℤ) → absent_or n z ≡ true → absent_or n (cond t (negsuc 0) z) ≡ true
absent_fits n true z e = refl
absent_fits n false z e = e

character_fits : (t : Bool) (c : ℕ) (z : ℤ) → leb c 255 ≡ true → within 255 z ≡ true → within 255 (cond t (pos c) z) ≡ true
character_fits true c z f e = f
character_fits false c z f e = e

-- two bytes of which the first is below 128
bytes_fit : (tag product : Bool) (c : ℕ) (z : ℤ) → leb c 255 ≡ true → within 32767 z ≡ true →
    within 32767 (pos (256 * cond tag 0 (word_of z / 256) + cond product c (word_of z % 256))) ≡ true
bytes_fit tag product c (pos w) f e =
    le-leb (256 * cond tag 0 (w / 256) + cond product c (w % 256)) 32767 (by tag product (leb-true c 255 f) (leb-true w 32767 e))
  where
    by : (tag product : Bool) → c ≤ 255 → w ≤ 32767 → 256 * cond tag 0 (w / 256) + cond product c (w % 256) ≤ 32767
    by true true h k = omega arith
    by true false h k = omega arith
    by false true h k = omega arith
    by false false h k = omega arith
bytes_fit tag product c (negsuc w) f e = absurd (let z : ◌≡◌ {A = ℕ} 0 1 = cc in omega arith)

-- an operand by its kind k: a ligature's is two bytes (a), and that of a kern index past the list is a kern of zero
operand_by : (k : ℕ) (y a z : ℤ) (x t : Bool) → k ≡ word_of y → both (eqb k 1) x ≡ t → operand_fits k z ≡ true → (within 32767 z ≡ true → within 32767 a ≡ true) →
    operand_fits (word_of (cond t (pos 0) y)) (cond (eqb k 2) a (cond t (pos 0) z)) ≡ true
operand_by k y a z x true e h f g = refl
operand_by k y a z x false e h f g =
    ap (λ (m : ℕ). operand_fits m (cond (eqb k 2) a z)) (sym e) ∙ go (eqb k 2) refl
  where
    go : (t : Bool) → eqb k 2 ≡ t → operand_fits k (cond t a z) ≡ true
    go true p = subst (λ (m : ℕ). operand_fits m a ≡ true) (sym (eqb-true k 2 p)) (g (ligature_fits k z f p))
    go false p = f

-- ---- tests that pass

both_pass : (a b : Bool) → a ≡ true → b ≡ true → both a b ≡ true
both_pass a b e f = rw (e, f)

unless_passes : (n : ℕ) (t : Bool) → t ≡ true → unless n t ≡ 0
unless_passes n t e = rw e

-- ---- the repaired font

module _ (d : Damaged) where
  abbrev s : List ℤ
  s = d.instructions

  abbrev s' : List ℤ
  s' = repaired_instructions d

  module _ (taken : program_refusal s ≡ 0) (small : leb d.replacement 255 ≡ true) where
    step_taken : (i : ℕ) → i < count s → is_instruction s' i ≡ true
    step_taken i h =
        let p = program_of d in
        let r = program_record s taken i h in
        let z = field s i 3 in
        let next = ap (absent_or 255) (field_repaired d i 0 h (omega arith)) ∙ absent_fits 255 (skip_goes p i) (field s i 0) (next_fits s i r) in
        let right = ap (within 255) (field_repaired d i 1 h (omega arith))
        ∙ character_fits (right_goes p i) d.replacement (field s i 1) small (right_fits s i r) in
        let operand = ap (λ (y : ℤ). operand_fits (word_of y) (field s' i 3)) (field_repaired d i 2 h (omega arith))
        ∙ ap (λ (a : ℤ). operand_fits (word_of (repaired_kind p i)) a) (field_repaired d i 3 h (omega arith))
        ∙ operand_by (word_of (field s i 2)) (field s i 2) _ z (leb (length d.kerns) (word_of z)) (kern_goes p i) refl refl (operand_fits_lem s i r)
        (bytes_fit (tag_goes p i) (product_goes p i) d.replacement z small) in
        both_pass (absent_or 255 (field s' i 0)) (both (within 255 (field s' i 1)) (operand_fits (word_of (field s' i 2)) (field s' i 3))) next
        (both_pass (within 255 (field s' i 1)) (operand_fits (word_of (field s' i 2)) (field s' i 3)) right operand)

    program_taken : program_refusal s' ≡ 0
    program_taken =
        let n = count s in
        let fours : length s' % 4 ≡ 0 = omega (arith, length_upto (program_of d) n) in
        let few : count s' ≤ 32767 = omega (arith, same_count d, program_size s taken) in
        second_is (size_refusal s') (record_refusal s')
        (unless_passes 1 (both (eqb (length s' % 4) 0) (leb (count s') 32767))
        (both_pass (eqb (length s' % 4) 0) (leb (count s') 32767) (eq-eqb (length s' % 4) 0 fours) (le-leb (count s') 32767 few)))
        ∙ unless_passes 2 (every (count s') (is_instruction s')) (every_all (count s') (is_instruction s') (λ i h. step_taken i (omega (arith, h, same_count d))))

  left_taken : absent_refusal 65535 d.left ≡ 0 → absent_refusal 65535 (repaired_left d) ≡ 0
  left_taken e =
      unless_passes 4 (absent_or 65535 (repaired_left d)) (absent_fits 65535 (left_goes d) d.left (unless_none 3 (absent_or 65535 d.left) e))

  passthrough_taken : passthrough_refusal (repaired_passthrough d) s' ≡ 0
  passthrough_taken =
      let n = count s in
      let e : length (repaired_passthrough d) ≡ count s' = length_tabulate n (λ i. cond (passed_over d i) 1 0) ∙ sym (same_count d) in
      unless_passes 4 (eqb (length (repaired_passthrough d)) (count s')) (eq-eqb (length (repaired_passthrough d)) (count s') e)

-- where the first, the fifth and the last of seven refusals change, and none held
seven : (a b c d e f g a' e' g' : ℕ) → (a ≡ 0 → f ≡ 0 → a' ≡ 0) → (e ≡ 0 → e' ≡ 0) → g' ≡ 0 →
    or_else a (or_else b (or_else c (or_else d (or_else e (or_else f g))))) ≡ 0 → or_else a' (or_else b (or_else c (or_else d (or_else e' (or_else f g'))))) ≡ 0
seven zero zero zero zero zero zero g a' e' g' h k l none = rw (h refl refl, k refl, l)
seven (suc a) b c d e f g a' e' g' h k l none = absurd (omega arith)
seven zero (suc b) c d e f g a' e' g' h k l none = absurd (omega arith)
seven zero zero (suc c) d e f g a' e' g' h k l none = absurd (omega arith)
seven zero zero zero (suc d) e f g a' e' g' h k l none = absurd (omega arith)
seven zero zero zero zero (suc e) f g a' e' g' h k l none = absurd (omega arith)
seven zero zero zero zero zero (suc f) g a' e' g' h k l none = absurd (omega arith)

pub taken_again : TakenAgain
taken_again d none =
    seven (program_refusal d.instructions) (kerns_refusal d.kerns) (entries_refusal 255 d.entries) (absent_refusal 255 d.boundary)
    (absent_refusal 65535 d.left) (unless 4 (leb d.replacement 255)) (passthrough_refusal d.passthrough d.instructions)
    (program_refusal (repaired_instructions d)) (absent_refusal 65535 (repaired_left d)) (passthrough_refusal (repaired_passthrough d) (repaired_instructions d))
    (λ p r. program_taken d p (unless_none 3 (leb d.replacement 255) r)) (left_taken d) (passthrough_taken d) none
