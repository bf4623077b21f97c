-- The contract of `show`: the block that shows a chip, of which it reads only what is shown. A block under 16 bytes is left as it is.
use Rattle.std.specs.Prelude.{Bool, true, cond, not, List, [], ◌∷◌, ℕ, ◌+◌, ◌/◌, ◌%◌, leb, eqb, length}
use Rattle.lang.specs.Every.{both}
use Rattle.captions.specs.declared.NextLeft.TheVariants as next
use Rattle.captions.specs.declared.Answer.{Answer}
use Rattle.captions.specs.Begin.{fresh}
use Rattle.chips.specs.declared.Chip.{Chip}
use Rattle.chips.specs.Blocks.{weighed, shown_block}

-- a chip that shows this: whether a word is open, how many its caller ended, and the item
abbrev pub chip_showing : Bool → ℕ → Answer → Chip
chip_showing opened count item =
    record { opened = opened; length = 0; letters = []; counts = count ∷ []; caller = 0; item = item; state = fresh next.Boundary 0 }

-- the block that shows a chip, where it has 16 bytes
abbrev pub shown_where : List ℕ → Chip → List ℕ
shown_where block chip = cond (leb 16 (length block)) (shown_block block chip) block

-- the interrupt and the status of chips/specs/Blocks, by the mask's byte
abbrev pub interrupt_by : ℕ → Bool → Bool → Bool
interrupt_by mask ready opened = cond (both ready (not (eqb (mask % 2) 1))) true (both opened (not (eqb (mask / 2 % 2) 1)))

abbrev pub status_by : ℕ → Bool → Bool → ℕ
status_by mask ready opened = weighed ready 1 + weighed opened 2 + weighed (interrupt_by mask ready opened) 4
