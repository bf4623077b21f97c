-- The block (R392 to R395, R422). Bytes 0, 1 and 3 are only read: the command, its letter or caller, the mask. A taken command writes byte 2, the
-- status, 4 to 7, the words that the caller of the last begin ended, and 8 to 15, the item that is shown. Bytes past 16 stay.
use Rattle.std.specs.Prelude.{Bool, true, false, cond, not, List, [], ◌∷◌, ◌++◌, ℕ, zero, suc, ◌+◌, ◌/◌, ◌%◌, eqb, get_or, take, drop, replicate}
use Rattle.words.specs.Words.{word_of}
use Rattle.lang.specs.Every.{both}
use Rattle.captions.specs.declared.Answer.{Answer}
use Rattle.captions.specs.declared.Answer.TheVariants.{Char, Ligature, Kern, End, Refused}
use Rattle.captions.specs.Replies.{is_end}
use Rattle.chips.specs.declared.Chip.{Chip}

-- ---- what is read

-- byte i of a block, 0 past its end
abbrev pub block_byte : List ℕ → ℕ → ℕ
block_byte block i = get_or block i 0

-- the command: 1 begin, 2 add, 3 end word, 4 take
abbrev pub block_command : List ℕ → ℕ
block_command block = block_byte block 0

-- the caller of begin, 0 to 7
abbrev pub block_caller : List ℕ → ℕ
block_caller block = block_byte block 1

-- the letter of add
abbrev pub block_letter : List ℕ → ℕ
block_letter block = block_byte block 1

-- the mask hides bit 0 or 1 of the status from the interrupt; its other bits are not read
abbrev pub masks : List ℕ → ℕ → Bool
masks block zero = eqb (block_byte block 3 % 2) 1
masks block (suc n) = eqb (block_byte block 3 / 2 % 2) 1

-- ---- the status (R393)

-- an item is ready
abbrev pub item_ready : Chip → Bool
item_ready chip = not (is_end chip.item)

-- a flag's weight where it is set, else 0
abbrev pub weighed : Bool → ℕ → ℕ
weighed true n = n
weighed false n = 0

-- the interrupt: an item is ready, or a word open, and the mask does not hide it
abbrev pub interrupts : List ℕ → Chip → Bool
interrupts block chip = cond (both (item_ready chip) (not (masks block 0))) true (both chip.opened (not (masks block 1)))

-- bit 0 item ready, bit 1 word open, bit 2 interrupt
abbrev pub status_byte : List ℕ → Chip → ℕ
status_byte block chip = weighed (item_ready chip) 1 + weighed chip.opened 2 + weighed (interrupts block chip) 4

-- ---- what is shown (R394, R395, R422)

-- how many words a caller ended; one above 7 has none
abbrev pub caller_count : ℕ → Chip → ℕ
caller_count caller chip = get_or chip.counts caller 0

-- the four bytes of a number of 32 bits, the highest first
abbrev pub high_first : ℕ → List ℕ
high_first n = n / 16777216 % 256 ∷ n / 65536 % 256 ∷ n / 256 % 256 ∷ n % 256 ∷ []

-- an item: its kind, its left and right flag, its original's length, and its code or scaled kern, as a T line has them; zeros for none
abbrev pub item_bytes : Answer → List ℕ
item_bytes (Char c start) = 0 ∷ 0 ∷ 0 ∷ 1 ∷ high_first c
item_bytes (Ligature c start n left right) = 1 ∷ weighed left 1 ∷ weighed right 1 ∷ n % 256 ∷ high_first c
item_bytes (Kern k) = 2 ∷ 0 ∷ 0 ∷ 0 ∷ high_first (word_of k)
item_bytes End = replicate 8 0
item_bytes (Refused n) = replicate 8 0

-- THE block that shows a chip, by the mask that the block has
abbrev pub shown_block : List ℕ → Chip → List ℕ
shown_block block chip =
    take 2 block ++ (status_byte block chip ∷ block_byte block 3 ∷ high_first (caller_count chip.caller chip)) ++ item_bytes chip.item ++ drop 16 block
