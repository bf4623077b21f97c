-- The contract of `show_changes`: what is changed of the chip that stands in a list, and the block that shows it.
use Rattle.std.specs.Prelude.{◌≡◌, Bool, cond, List, ◌++◌, ℕ, ◌+◌, leb, length, get_or, drop}
use Rattle.lang.specs.Every.{both}
use Rattle.captions.specs.declared.Answer.{Answer}
use Rattle.captions.specs.declared.State.{State}
use Rattle.chip_block.specs.Showing.{shown_where}
use Rattle.c_chips.specs.ChipLists.{is_word, chip_numbers, chip_at, chip_with}

-- a list with room for a chip, no more than 64 letters, a caller of 0 to 7, and its count of 32 bits
abbrev pub can_show : List ℕ → Bool
can_show ns = both (leb 91 (length ns)) (both (leb (get_or ns 1 0) 64) (both (leb (get_or ns 90 0) 7) (is_word (get_or ns (82 + get_or ns 90 0) 0))))

-- the block and the list; where the list is no chip's both stay
pub record ShowsChanges (opened : Bool) (item : Answer) (state : State) (block ns block' ns' : List ℕ) : Type 0 where
  pub shown : block' ≡ cond (can_show ns) (shown_where block (chip_with opened item state (chip_at ns))) block
  pub moved : ns' ≡ cond (can_show ns) (chip_numbers (chip_with opened item state (chip_at ns)) ++ drop 91 ns) ns
