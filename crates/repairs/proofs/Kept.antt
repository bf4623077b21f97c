-- A step of which no test holds is as it was lent, and so is a program of such steps.
-- Assumes nothing.
use mathlib.Core.Path.{◌≡◌, refl, sym, ap, ◌∙◌}
use mathlib.Core.Bool.{Bool, true, false, cond}
use mathlib.Core.List.{List}
use Prim.Native.Nat.{ℕ, zero, suc, ◌+◌, ◌*◌, ◌/◌, ◌%◌, ◌<◌}
use native.Mathlib.Omega.{arith}
use lib.IntN.{ℤ, pos, negsuc}
use lib.Dec.{eqb}
use lib.ListN.{length, get_or}
use lib.Seq.{ext_get_or}
use borrow.Author.Tests.{eqb-true}
use Rattle.words.specs.Words.{word_of}
use Rattle.lang.specs.Every.{both}
use Rattle.lang.specs.Records.{count, field, is_instruction, within, absent_or, operand_fits}
use Rattle.lang.specs.Checks.{program_refusal}
use Rattle.lang.proofs.Every.{both_left, both_right}
use Rattle.lang.proofs.Refusals.{program_fours, program_record}
use Rattle.repairs.specs.Damaged.{Damaged, program_of}
use Rattle.repairs.specs.Repaired.{skip_goes, is_ligature, right_goes, kern_goes, product_goes, tag_goes, repaired_step, repaired_instructions}
use Rattle.repairs.proofs.Steps.{length_upto, step_number_lem, field_below}
use Rattle.repairs.proofs.Warned.{StepSound, ProgramSound}

-- ---- an instruction

-- the next of an instruction, its right character, its operand, and a ligature's
pub next_fits : (s : List ℤ) (i : ℕ) → is_instruction s i ≡ true → absent_or 255 (field s i 0) ≡ true
next_fits s i t =
    both_left (absent_or 255 (field s i 0)) (both (within 255 (field s i 1)) (operand_fits (word_of (field s i 2)) (field s i 3))) t

pub right_fits : (s : List ℤ) (i : ℕ) → is_instruction s i ≡ true → within 255 (field s i 1) ≡ true
right_fits s i t =
    both_left (within 255 (field s i 1)) (operand_fits (word_of (field s i 2)) (field s i 3))
    (both_right (absent_or 255 (field s i 0)) (both (within 255 (field s i 1)) (operand_fits (word_of (field s i 2)) (field s i 3))) t)

pub operand_fits_lem : (s : List ℤ) (i : ℕ) → is_instruction s i ≡ true → operand_fits (word_of (field s i 2)) (field s i 3) ≡ true
operand_fits_lem s i t =
    both_right (within 255 (field s i 1)) (operand_fits (word_of (field s i 2)) (field s i 3))
    (both_right (absent_or 255 (field s i 0)) (both (within 255 (field s i 1)) (operand_fits (word_of (field s i 2)) (field s i 3))) t)

pub ligature_fits : (kind : ℕ) (z : ℤ) → operand_fits kind z ≡ true → eqb kind 2 ≡ true → within 32767 z ≡ true
ligature_fits kind z f e = rw (eqb-true kind 2 e) at f

-- ---- a step

pub cond_false : {A : Type 0} (t : Bool) (x y : A) → t ≡ false → cond t x y ≡ y
cond_false true x y e = absurd (let z : ◌≡◌ {A = ℕ} 0 1 = cc in omega arith)
cond_false false x y e = refl

-- a ligature's two bytes put together again
bytes_kept : (z : ℤ) → within 32767 z ≡ true → pos (256 * (word_of z / 256) + word_of z % 256) ≡ z
bytes_kept (pos m) t = let e : 256 * (m / 256) + m % 256 ≡ m = omega arith in rw e
bytes_kept (negsuc m) t = absurd (let z : ◌≡◌ {A = ℕ} 0 1 = cc in omega arith)

operand_kept : (lig tag product kern : Bool) (r : ℕ) (z : ℤ) → tag ≡ false → product ≡ false → kern ≡ false → (lig ≡ true → within 32767 z ≡ true) →
    cond lig (pos (256 * cond tag 0 (word_of z / 256) + cond product r (word_of z % 256))) (cond kern (pos 0) z) ≡ z
operand_kept true tag product kern r z e f g h = rw (e, f) (bytes_kept z (h refl))
operand_kept false tag product kern r z e f g h = rw g

step_kept : (d : Damaged) (i : ℕ) → is_instruction d.instructions i ≡ true → skip_goes (program_of d) i ≡ false → StepSound d i → (j : ℕ) → j < 4 →
    get_or (repaired_step (program_of d) i) j (pos 0) ≡ field d.instructions i j
step_kept d i t e g zero h = cond_false (skip_goes (program_of d) i) (negsuc 0) (field d.instructions i 0) e
step_kept d i t e g (suc zero) h = cond_false (right_goes (program_of d) i) (pos d.replacement) (field d.instructions i 1) g.right
step_kept d i t e g (suc (suc zero)) h = cond_false (kern_goes (program_of d) i) (pos 0) (field d.instructions i 2) g.kern_index
step_kept d i t e g (suc (suc (suc zero))) h =
    operand_kept (is_ligature (program_of d) i) (tag_goes (program_of d) i) (product_goes (program_of d) i) (kern_goes (program_of d) i) d.replacement
    (field d.instructions i 3) g.tag
    g.product g.kern_index
    (ligature_fits (word_of (field d.instructions i 2)) (field d.instructions i 3) (operand_fits_lem d.instructions i t))
step_kept d i t e g (suc (suc (suc (suc j)))) h = absurd (omega arith)

-- ---- the program

pub program_kept : (d : Damaged) → program_refusal d.instructions ≡ 0 → ProgramSound d → repaired_instructions d ≡ d.instructions
program_kept d e g = ext_get_or (pos 0) (repaired_instructions d) d.instructions (sizes ∙ sym (program_fours d.instructions e)) kept
  where
    sizes : length (repaired_instructions d) ≡ 4 * count d.instructions
    sizes = length_upto (program_of d) (count d.instructions)

    kept : (m : ℕ) → m < length (repaired_instructions d) → get_or (repaired_instructions d) m (pos 0) ≡ get_or d.instructions m (pos 0)
    kept m h =
        let i = m / 4 in
        let j = m % 4 in
        let k : i < count d.instructions = omega (arith, sizes) in
        let l : j < 4 = omega arith in
        let p : 4 * i + j ≡ m = omega arith in
        ap (λ (a : ℕ). get_or (repaired_instructions d) a (pos 0)) (sym p)
        ∙ step_number_lem (program_of d) (count d.instructions) i j k l
        ∙ step_kept d i (program_record d.instructions e i k) (g.skips i k) (g.steps i k) j l
        ∙ field_below d.instructions i j k
        ∙ ap (λ (a : ℕ). get_or d.instructions a (pos 0)) p
