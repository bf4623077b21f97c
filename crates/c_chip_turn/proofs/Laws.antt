-- What each command leaves, by byte 0.
-- Assumes nothing.
use mathlib.Core.Path.{◌≡◌}
use mathlib.Core.Bool.{true, false}
use mathlib.Core.List.{List, [], ◌∷◌}
use Prim.Native.Nat.{ℕ}
use native.Mathlib.Omega.{arith}
use lib.IntN.{ℤ}
use lib.ListN.{length}
use borrow.Author.Tests.{eq-eqb, ne_eqb}
use Rattle.lang.proofs.Arms.{NoneOf}
use Rattle.chips.specs.declared.Chip.{Chip}
use Rattle.chips.specs.Blocks.{block_command, block_letter}
use Rattle.chips.specs.Commands.{may_add, in_turn, chip_added, chip_after}
use Rattle.c_chips.specs.ChipLists.{after_early, MovesChip}
use Rattle.c_chip_step.specs.StepTurns.{step_turn_number, step_turn_chip}
use Rattle.c_chip_turn.specs.ListTurns.{other_refusal}

module _ (pairs ops : List ℤ) (boundary : ℤ) (block : List ℕ) (chip : Chip) where
  -- what a command leaves, after what is refused before it is looked at
  abbrev CommandLeaves : ℕ → Chip → List ℕ → ℕ → List ℕ → List ℕ → Type 0
  CommandLeaves n x ns r block' ns' = MovesChip (after_early boundary chip (length block) n) x block ns r block' ns'

  abbrev TurnLeaves : List ℕ → ℕ → List ℕ → List ℕ → Type 0
  TurnLeaves ns r block' ns' = CommandLeaves (other_refusal pairs ops boundary block chip) (chip_after pairs ops boundary block chip) ns r block' ns'

  pub adds : {ns : List ℕ} {r : ℕ} {block' ns' : List ℕ} → block_command block ≡ 2 →
      CommandLeaves (in_turn (may_add chip) 0) (chip_added (block_letter block) chip) ns r block' ns' → TurnLeaves ns r block' ns'
  adds e m = rw (ne_eqb (block_command block) 1 (λ q. omega (arith, q, e)), eq-eqb (block_command block) 2 e) m

  pub ends : {ns : List ℕ} {r : ℕ} {block' ns' : List ℕ} → block_command block ≡ 3 →
      CommandLeaves (step_turn_number pairs ops boundary true chip) (step_turn_chip pairs ops boundary true chip) ns r block' ns' → TurnLeaves ns r block' ns'
  ends e m =
      rw (
        ne_eqb (block_command block) 1 (λ q. omega (arith, q, e)),
        ne_eqb (block_command block) 2 (λ q. omega (arith, q, e)),
        eq-eqb (block_command block) 3 e,
      ) m

  pub takes : {ns : List ℕ} {r : ℕ} {block' ns' : List ℕ} → block_command block ≡ 4 →
      CommandLeaves (step_turn_number pairs ops boundary false chip) (step_turn_chip pairs ops boundary false chip) ns r block' ns' → TurnLeaves ns r block' ns'
  takes e m =
      rw (
        ne_eqb (block_command block) 1 (λ q. omega (arith, q, e)),
        ne_eqb (block_command block) 2 (λ q. omega (arith, q, e)),
        ne_eqb (block_command block) 3 (λ q. omega (arith, q, e)),
        eq-eqb (block_command block) 4 e,
      ) m

  -- 21
  pub none_does : NoneOf (Unit {0}) (block_command block) (2 ∷ 3 ∷ 4 ∷ []) → other_refusal pairs ops boundary block chip ≡ 21
  none_does n = let x = block_command block in rw (ne_eqb x 2 n.0.0.1, ne_eqb x 3 n.0.1, ne_eqb x 4 n.1)
