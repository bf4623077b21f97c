-- The commands but begin on the chip that stands in a list: the contract of `turn_in`, over chips/specs/Commands.
use Rattle.std.specs.Prelude.{cond, List, ℕ, eqb, ℤ}
use Rattle.chips.specs.declared.Chip.{Chip}
use Rattle.chips.specs.Blocks.{block_command, item_ready}
use Rattle.chips.specs.Commands.{may_add, in_turn, answer_number, chip_step}

-- what a command refuses that is not begin: `turnRefusal` without its first case, and 21 there
abbrev pub other_refusal : List ℤ → List ℤ → ℤ → List ℕ → Chip → ℕ
other_refusal pairs ops boundary block chip =
    cond (eqb (block_command block) 2) (in_turn (may_add chip) 0)
    (cond (eqb (block_command block) 3) (in_turn chip.opened (answer_number (chip_step pairs ops boundary chip).answer))
    (cond (eqb (block_command block) 4) (in_turn (item_ready chip) (answer_number (chip_step pairs ops boundary chip).answer)) 21))
