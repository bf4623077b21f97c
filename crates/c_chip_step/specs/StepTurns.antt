-- End and take on the chip that stands in a list: the contract of `step_turn`, over chips/specs/Commands.
use Rattle.std.specs.Prelude.{Bool, cond, List, ℕ, ℤ}
use Rattle.chips.specs.declared.Chip.{Chip}
use Rattle.chips.specs.Blocks.{item_ready}
use Rattle.chips.specs.Commands.{in_turn, answer_number, chip_step, counted_word, chip_stepped}

-- end or take: the number, and the chip after it
abbrev pub step_turn_number : List ℤ → List ℤ → ℤ → Bool → Chip → ℕ
step_turn_number pairs ops boundary ends chip =
    in_turn (cond ends chip.opened (item_ready chip)) (answer_number (chip_step pairs ops boundary chip).answer)

abbrev pub step_turn_chip : List ℤ → List ℤ → ℤ → Bool → Chip → Chip
step_turn_chip pairs ops boundary ends chip = chip_stepped (cond ends (counted_word chip) chip.counts) (chip_step pairs ops boundary chip) chip
