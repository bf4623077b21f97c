-- One command of a chip that stands in a list: begin, or another.
-- Assumes nothing.
use mathlib.Core.Path.{◌≡◌}
use mathlib.Core.List.{List}
use Prim.Native.Nat.{ℕ}
use lib.IntN.{ℤ}
use lib.ListN.{length}
use borrow.Author.Tests.{eq-eqb, ne_eqb}
use Rattle.lang.specs.Checks.{or_else}
use Rattle.captions.specs.Form.{table_refusal}
use Rattle.chips.specs.Blocks.{block_command, block_caller}
use Rattle.chips.specs.Commands.{may_begin, caller_refusal, in_turn, chip_begun, chip_after}
use Rattle.c_chips.specs.ChipLists.{chip_read, after_early, MovesChip}
use Rattle.c_chip_turn.specs.ListTurns.{other_refusal}
use Rattle.c_chip.specs.Chip91.{TellsChip}

module _ (pairs ops : List ℤ) (boundary : ℤ) (block ns : List ℕ) where
  pub begin_told : {r : ℕ} {block' ns' : List ℕ} → block_command block ≡ 1 →
      MovesChip (after_early boundary (chip_read ns) (length block)
      (or_else (table_refusal pairs ops) (in_turn (may_begin (block_caller block) (chip_read ns)) (caller_refusal (block_caller block)))))
      (chip_begun (block_caller block) (chip_read ns)) block ns r block' ns' → TellsChip pairs ops boundary block ns r block' ns'
  begin_told e m =
      let t = eq-eqb (block_command block) 1 e in record { number = rw t m.number; shown = rw t m.shown; moved = rw t m.moved }

  pub turn_told : {r : ℕ} {block' ns' : List ℕ} → (block_command block ≡ 1 → ⊥) →
      MovesChip (after_early boundary (chip_read ns) (length block) (other_refusal pairs ops boundary block (chip_read ns)))
      (chip_after pairs ops boundary block (chip_read ns)) block ns r block' ns' → TellsChip pairs ops boundary block ns r block' ns'
  turn_told e m =
      let f = ne_eqb (block_command block) 1 e in
      record { number = rw f m.number; shown = rw f (rw f at m.shown); moved = rw f (rw f at m.moved) }
