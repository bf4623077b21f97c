-- What is commanded, by a step, and whole.
-- Assumes nothing.
use mathlib.Core.Path.{◌≡◌, refl, ap, ◌∙◌}
use mathlib.Core.Bool.{Bool, true, false, cond}
use mathlib.Core.List.{List}
use Prim.Native.Nat.{ℕ, zero, suc}
use native.Mathlib.Omega.{arith}
use lib.Dec.{leb, ltb}
use lib.IntN.{ℤ}
use lib.ListN.{length}
use Rattle.lang.specs.Checks.{or_else, absent_refusal}
use Rattle.lang.specs.Answers.{room_refusal}
use Rattle.chips.specs.declared.Chip.{Chip}
use Rattle.chips.specs.declared.Commanded.{Commanded}
use Rattle.captions.specs.declared.Step.{Step}
use Rattle.chips.specs.Commands.{chip_refusal, chip_step, chip_stepped, answer_number, may_add, in_turn, chip_after, turn_refusal, commanded_by}
use Rattle.chip_begin.proofs.Laws.{refused_by}
use Rattle.chip_turn.specs.Turns.{turned_of, commanded_of}

-- ---- what is commanded

-- by a step
abbrev pub stepped_by : Chip → List ℕ → Step → Commanded
stepped_by chip counts given = commanded_by (answer_number given.answer) (chip_stepped counts given chip) chip

-- end and take
abbrev pub turn_at : List ℤ → List ℤ → Chip → Bool → List ℕ → ℤ → Commanded
turn_at pairs ops chip turn counts boundary =
    commanded_by (in_turn turn (answer_number (chip_step pairs ops boundary chip).answer)) (chip_stepped counts (chip_step pairs ops boundary chip) chip) chip

-- add: its word is full, or none is open
pub word_full : (chip : Chip) → chip.opened ≡ true → ltb chip.length 64 ≡ false → may_add chip ≡ false
word_full chip e h = rw (e, h)

pub none_open : (chip : Chip) → chip.opened ≡ false → may_add chip ≡ false
none_open chip e = rw e

-- ---- a command whole

-- the first three refusals, and what is refused after them
early_by : (a b : ℕ) (t : Bool) (n : ℕ) → (or_else a (or_else b (cond t 0 15)) ≡ 0 → ⊥) →
    or_else a (or_else b (cond t 0 15)) ≡ or_else a (or_else b (cond t n 15))
early_by zero zero true n h = absurd (h refl)
early_by zero zero false n h = refl
early_by zero (suc b) t n h = refl
early_by (suc a) b t n h = refl

none_early : (a b : ℕ) (t : Bool) → or_else a (or_else b (cond t 0 15)) ≡ 0 → (a ≡ 0) × (b ≡ 0) × (t ≡ true)
none_early zero zero true e = (refl, refl, refl)
none_early zero zero false e = absurd (omega arith)
none_early zero (suc b) t e = absurd (omega arith)
none_early (suc a) b t e = absurd (omega arith)

late_by : (a b : ℕ) (t : Bool) (n : ℕ) → a ≡ 0 → b ≡ 0 → t ≡ true → n ≡ or_else a (or_else b (cond t n 15))
late_by a b t n e f g = rw (e, f, g)

-- what is refused before a command is looked at
abbrev pub early_refusal : ℤ → Chip → ℕ → ℕ
early_refusal boundary chip bytes = or_else (absent_refusal 255 boundary) (or_else (chip_refusal chip) (room_refusal 16 bytes))

module _ (boundary : ℤ) (chip : Chip) (bytes : ℕ) (e : early_refusal boundary chip bytes ≡ 0) where
  passed : (absent_refusal 255 boundary ≡ 0) × (chip_refusal chip ≡ 0) × (leb 16 bytes ≡ true)
  passed = none_early (absent_refusal 255 boundary) (chip_refusal chip) (leb 16 bytes) e

  pub edge_passed : absent_refusal 255 boundary ≡ 0
  edge_passed = passed.0

  pub chip_passed : chip_refusal chip ≡ 0
  chip_passed = passed.1

module _ (pairs ops : List ℤ) (boundary : ℤ) (bytes : ℕ) (block : List ℕ) (chip : Chip) where
  abbrev turn : ℕ
  turn = turn_refusal pairs ops boundary block chip

  -- refused before the command is looked at
  pub early_whole : {r : ℕ} → r ≡ early_refusal boundary chip bytes → (r ≡ 0 → ⊥) →
      ◌≡◌ {A = Commanded} (record { number = r; chip = chip }) (commanded_of pairs ops boundary bytes block chip)
  early_whole e h =
      refused_by (chip_after pairs ops boundary block chip) chip
      (e ∙ early_by (absent_refusal 255 boundary) (chip_refusal chip) (leb 16 bytes) turn (λ z. h (e ∙ z))) h

  -- by the command
  pub turned_whole : early_refusal boundary chip bytes ≡ 0 → turned_of pairs ops boundary block chip ≡ commanded_of pairs ops boundary bytes block chip
  turned_whole e =
      let p = passed boundary chip bytes e in
      ap (λ (n : ℕ). commanded_by n (chip_after pairs ops boundary block chip) chip)
      (late_by (absent_refusal 255 boundary) (chip_refusal chip) (leb 16 bytes) turn p.0 p.1 p.2)
