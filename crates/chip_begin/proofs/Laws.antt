-- What is commanded, by its refusal; and what begin answers.
-- Assumes nothing.
use mathlib.Core.Path.{◌≡◌, refl}
use mathlib.Core.Bool.{Bool, true, false}
use mathlib.Core.List.{List, []}
use Prim.Native.Nat.{ℕ, zero, suc}
use native.Mathlib.Omega.{arith}
use lib.IntN.{ℤ}
use lib.ListN.{get_or}
use Rattle.lang.specs.Checks.{absent_refusal, is_letter}
use Rattle.lang.proofs.Every.{every_none}
use Rattle.lang.proofs.Refusals.{second_none}
use Rattle.captions.specs.declared.State.{State}
use Rattle.captions.specs.declared.Begun.TheVariants.{Run, Refused}
use Rattle.captions.specs.Form.{table_refusal}
use Rattle.captions.specs.Begin.{begin_refusal, begun_by, plain_options}
use Rattle.chips.specs.declared.Chip.{Chip}
use Rattle.chips.specs.declared.Commanded.{Commanded}
use Rattle.chips.specs.Commands.{in_turn, commanded_by}

-- ---- what is commanded

module _ (after chip : Chip) {m : ℕ} where
  pub refused_by : {r : ℕ} → r ≡ m → (r ≡ 0 → ⊥) → ◌≡◌ {A = Commanded} (record { number = r; chip = chip }) (commanded_by m after chip)
  refused_by {r} e h = by m e
    where
      by : (n : ℕ) → r ≡ n → ◌≡◌ {A = Commanded} (record { number = r; chip = chip }) (commanded_by n after chip)
      by zero q = absurd (h q)
      by (suc n) q = rw q

  pub taken_by : m ≡ 0 → ◌≡◌ {A = Commanded} (record { number = 0; chip = after }) (commanded_by m after chip)
  taken_by z = rw z

-- a command in turn, and one out of turn
pub in_turn_lem : {t : Bool} (n : ℕ) (after chip : Chip) → t ≡ true → commanded_by n after chip ≡ commanded_by (in_turn t n) after chip
in_turn_lem n after chip e = rw e

pub out_of_turn : {t : Bool} (n : ℕ) (after chip : Chip) → t ≡ false →
    ◌≡◌ {A = Commanded} (record { number = 22; chip = chip }) (commanded_by (in_turn t n) after chip)
out_of_turn n after chip e = rw e

-- ---- what begin answers

-- begin over no letters refuses the table alone, where the boundary character is in range
pub none_refusal : (pairs ops : List ℤ) (boundary : ℤ) → absent_refusal 255 boundary ≡ 0 →
    begin_refusal pairs ops boundary [] plain_options ≡ table_refusal pairs ops
none_refusal pairs ops boundary h = rw (h, every_none (λ i. is_letter (get_or [] i 0))) (second_none (table_refusal pairs ops))

-- a run: nothing is refused
pub run_by : (t : ℕ) (s s' : State) → Run s ≡ begun_by t s' → (t ≡ 0) × (s ≡ s')
run_by zero s s' e = (refl, cc)
run_by (suc t) s s' e = absurd (let z : ◌≡◌ {A = ℕ} 0 1 = cc in omega arith)

-- a refusal: that of the table
pub refused_in : (t n : ℕ) (s' : State) → Refused n ≡ begun_by t s' → (n ≡ t) × (n ≡ 0 → ⊥)
refused_in zero n s' e = absurd (let z : ◌≡◌ {A = ℕ} 0 1 = cc in omega arith)
refused_in (suc t) n s' e = let q : n ≡ suc t = cc in (q, λ z. omega (arith, q, z))
