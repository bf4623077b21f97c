-- A chip after a command, by the block's length and its first bytes: the contract of `commanded`, over chips/specs/Commands.
use Rattle.std.specs.Prelude.{cond, List, ℕ, leb, ℤ}
use Rattle.lang.specs.Checks.{or_else, absent_refusal}
use Rattle.chips.specs.declared.Chip.{Chip}
use Rattle.chips.specs.declared.Commanded.{Commanded}
use Rattle.chips.specs.Commands.{chip_refusal, chip_after, turn_refusal, commanded_by}

-- what a command does that is not refused before it is looked at
abbrev pub turned_of : List ℤ → List ℤ → ℤ → List ℕ → Chip → Commanded
turned_of pairs ops boundary block chip =
    commanded_by (turn_refusal pairs ops boundary block chip) (chip_after pairs ops boundary block chip) chip

-- what a command does on a block of so many bytes, of which `block` has the first two; `commandOf` of chips/specs/Commands where it has all
abbrev pub commanded_of : List ℤ → List ℤ → ℤ → ℕ → List ℕ → Chip → Commanded
commanded_of pairs ops boundary bytes block chip =
    commanded_by
    (or_else (absent_refusal 255 boundary)
    (or_else (chip_refusal chip)
    (cond (leb 16 bytes) (turn_refusal pairs ops boundary block chip) 15)))
    (chip_after pairs ops boundary block chip) chip
