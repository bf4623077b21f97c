-- One command of the chip that stands in a list of 91 numbers (R400, R426): the contract of `ligkern_chip`.
use Rattle.std.specs.Prelude.{◌≡◌, List, ℕ, ℤ}
use Rattle.chips.specs.Commands.{chip_after, command_refusal, block_by}
use Rattle.c_chips.specs.ChipLists.{chip_read, chip_moved}

-- the number: that of the command, on the chip that was read. Numbers that are no chip's are read as one that is 7 at every command
abbrev pub chip_number : List ℤ → List ℤ → ℤ → List ℕ → List ℕ → ℕ
chip_number pairs ops boundary block ns = command_refusal pairs ops boundary block (chip_read ns)

-- the number, the block and the list
pub record TellsChip (pairs ops : List ℤ) (boundary : ℤ) (block ns : List ℕ) (r : ℕ) (block' ns' : List ℕ) : Type 0 where
  pub number : r ≡ chip_number pairs ops boundary block ns
  pub shown : block' ≡ block_by (chip_number pairs ops boundary block ns) block (chip_after pairs ops boundary block (chip_read ns))
  pub moved : ns' ≡ chip_moved (chip_number pairs ops boundary block ns) ns (chip_after pairs ops boundary block (chip_read ns))
