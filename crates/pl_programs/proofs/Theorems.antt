-- Proves what specs/Purpose states.
-- Assumes nothing.
use mathlib.Core.Path.{◌≡◌, refl, ap, ◌∙◌, subst}
use mathlib.Core.Bool.{true, false}
use mathlib.Core.List.{List}
use mathlib.Core.Option.{some}
use Prim.Native.Nat.{ℕ, ◌+◌, ◌*◌, ◌/◌, ◌%◌, ◌<◌, ◌≤◌}
use native.Mathlib.Omega.{arith}
use lib.Dec.{leb, eqb}
use lib.IntN.{ℤ, pos}
use lib.ListN.{length, get_or}
use borrow.Author.Tests.{eq-eqb, lt-ltb, le-leb}
use Rattle.words.specs.Words.{word_of}
use Rattle.lang.specs.Records.{count, field, within, absent_or, operand_fits, is_instruction, is_kind}
use Rattle.lang.specs.Checks.{program_refusal}
use Rattle.lang.proofs.Every.{every_all}
use Rattle.property_lists.specs.ListReading.{ListRead, pl_read}
use Rattle.pl_programs.specs.Purpose.{ReadProgram, ReadIsProgram}
use Rattle.pl_programs.proofs.Given.{Gives, given}
use Rattle.pl_programs.proofs.Sound.{NextIn, halts, leads, follows, last, OperandIn, kern, ligature, RightIn, right, Finished, list_gives}

-- ---- the numbers of a step

pub next_range : {steps needed i : ℕ} {z : ℤ} → NextIn steps needed false i z → absent_or 255 z ≡ true
next_range halts = refl
next_range (leads m a b) = le-leb m 255 (omega arith)
next_range (follows a) = refl
next_range (last e t) = refl

pub right_range : {z : ℤ} → RightIn z → within 255 z ≡ true
right_range (right c h) = le-leb c 255 (omega arith)

pub operand_range : {kind z : ℤ} → OperandIn kind z → operand_fits (word_of kind) z ≡ true
operand_range (kern z e) = refl
operand_range (ligature op inserted a b e) = le-leb (256 * op + inserted) 32767 (omega arith)

-- no kern index is read
no_index : {kind z : ℤ} → OperandIn kind z → eqb (word_of kind) 1 ≡ false
no_index (kern z e) = refl
no_index (ligature op inserted a b e) = refl

-- ---- all of them

module _ (x : ListRead) (f : Finished x) where
  pub counted : count x.program ≡ x.now.steps
  counted = let l = f.sound.long in omega arith

  pub field_at : (i j : ℕ) → i < x.now.steps → field x.program i j ≡ get_or x.program (4 * i + j) (pos 0)
  field_at i j h = rw (lt-ltb i (count x.program) (rw counted h))

  pub next_at : (i : ℕ) → i < x.now.steps → field x.program i 0 ≡ get_or x.program (4 * i) (pos 0)
  next_at i h = field_at i 0 h ∙ ap (λ (k : ℕ). get_or x.program k (pos 0)) (let e : 4 * i + 0 ≡ 4 * i = omega arith in e)

  instructions_are : (i : ℕ) → i < count x.program → is_instruction x.program i ≡ true
  instructions_are i h =
      let k : i < x.now.steps = omega (arith, counted) in
      rw (
        next_at i k,
        field_at i 1 k,
        field_at i 2 k,
        field_at i 3 k,
        next_range (f.sound.next i k),
        right_range (f.sound.right i k),
        operand_range (f.sound.operand i k),
      )

  pub program_taken : x.now.steps ≤ 32767 → program_refusal x.program ≡ 0
  program_taken small =
      let l = f.sound.long in
      rw (
        eq-eqb (length x.program % 4) 0 (omega arith),
        le-leb (count x.program) 32767 (omega (arith, counted)),
        every_all (count x.program) (is_instruction x.program) instructions_are,
      )

  pub indices_none : (i : ℕ) → i < count x.program → is_kind 1 x.program i ≡ false
  indices_none i h =
      let k : i < x.now.steps = omega (arith, counted) in
      rw (field_at i 2 k) (no_index (f.sound.operand i k))

  read_program : ReadProgram x
  read_program = record { fours = f.sound.long; fits = f.sound.fits; taken = program_taken; no_index = indices_none }

pub list_finished_lem : (text : List ℕ) (r : ListRead) → pl_read text ≡ some r → Finished r
list_finished_lem text r e = given (subst (λ o. Gives Finished o) e (list_gives text))

pub read_is_program : ReadIsProgram
read_is_program text r e = read_program r (list_finished_lem text r e)
