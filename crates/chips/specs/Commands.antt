-- The commands (R396 to R399, R421 to R423): the chip after each, its refusals, and the contract of `command`. Words are set with the left boundary and
-- no override.
use Rattle.std.specs.Prelude.{◌≡◌, Bool, true, false, cond, not, List, [], ℕ, zero, suc, ℤ, leb, ltb, eqb, length, get_or, take, set, replicate}
use Rattle.lang.specs.Every.{both, every}
use Rattle.lang.specs.Checks.{unless, or_else, absent_refusal}
use Rattle.captions.specs.declared.NextLeft.TheVariants as next
use Rattle.captions.specs.declared.Answer.{Answer}
use Rattle.captions.specs.declared.Answer.TheVariants.{Char, Ligature, Kern, End, Refused}
use Rattle.captions.specs.declared.Step.{Step}
use Rattle.captions.specs.Form.{table_refusal}
use Rattle.captions.specs.Begin.{fresh, fresh_state, plain_options}
use Rattle.captions.specs.Steps.{step_of}
use Rattle.chips.specs.declared.Chip.{Chip}
use Rattle.chips.specs.declared.Commanded.{Commanded}
use Rattle.chips.specs.Blocks.{block_command, block_caller, block_letter, item_ready, caller_count, shown_block}

-- ---- a chip

-- a fresh chip: no word, no item, none ended by any caller, and the state of nine zeros
abbrev pub fresh_chip : Chip
fresh_chip =
    record {
      opened = false;
      length = 0;
      letters = replicate 64 0;
      counts = replicate 8 0;
      caller = 0;
      item = End;
      state = fresh next.Boundary 0;
    }

-- its word: the letters that were added
abbrev pub chip_word : Chip → List ℕ
chip_word chip = take chip.length chip.letters

-- an item that a step can give of a word of at most 64 letters: no refusal, and no original that is longer
abbrev pub item_stands : Answer → Bool
item_stands (Char c start) = true
item_stands (Ligature c start n left right) = leb n 64
item_stands (Kern k) = true
item_stands End = true
item_stands (Refused n) = false

-- the count of a caller has room for one more word
abbrev pub can_count : ℕ → Chip → Bool
can_count caller chip = ltb (caller_count caller chip) 4294967295

-- a word that is open has no item ready, and its caller's count has room for it
abbrev pub open_stands : Chip → Bool
open_stands chip = cond chip.opened (both (not (item_ready chip)) (can_count chip.caller chip)) true

-- 7 (R397, R423): a chip that no command leaves. Its run is looked at where a step is made
abbrev pub chip_refusal : Chip → ℕ
chip_refusal chip =
    unless 7
    (both (leb chip.length 64)
    (both (every chip.length (λ i. leb (get_or chip.letters i 0) 255))
    (both (item_stands chip.item) (both (leb chip.caller 7) (open_stands chip)))))

-- ---- the chip after each command (R396, R421)

-- begin opens an empty word of a caller, with a fresh run
abbrev pub chip_begun : ℕ → Chip → Chip
chip_begun caller chip =
    record {
      opened = true;
      length = 0;
      letters = chip.letters;
      counts = chip.counts;
      caller = caller;
      item = chip.item;
      state = fresh_state [] plain_options;
    }

-- add puts a letter behind the others
abbrev pub chip_added : ℕ → Chip → Chip
chip_added letter chip =
    record {
      opened = chip.opened;
      length = suc chip.length;
      letters = set chip.letters chip.length letter;
      counts = chip.counts;
      caller = chip.caller;
      item = chip.item;
      state = chip.state;
    }

-- the step that end and take make
abbrev pub chip_step : List ℤ → List ℤ → ℤ → Chip → Step
chip_step pairs ops boundary chip = step_of pairs ops boundary (chip_word chip) plain_options chip.state

-- the counts with one word more, of the chip's caller and of no other
abbrev pub counted_word : Chip → List ℕ
counted_word chip = set chip.counts chip.caller (suc (caller_count chip.caller chip))

-- the chip with the answer of a step, these counts, and no word open
abbrev pub chip_stepped : List ℕ → Step → Chip → Chip
chip_stepped counts step chip =
    record {
      opened = false;
      length = chip.length;
      letters = chip.letters;
      counts = counts;
      caller = chip.caller;
      item = step.answer;
      state = step.state;
    }

-- by the command: end counts the word; take passes the item
abbrev pub chip_after : List ℤ → List ℤ → ℤ → List ℕ → Chip → Chip
chip_after pairs ops boundary block chip =
    cond (eqb (block_command block) 1) (chip_begun (block_caller block) chip)
    (cond (eqb (block_command block) 2) (chip_added (block_letter block) chip)
    (cond (eqb (block_command block) 3) (chip_stepped (counted_word chip) (chip_step pairs ops boundary chip) chip)
    (chip_stepped chip.counts (chip_step pairs ops boundary chip) chip)))

-- ---- refusals (R397 to R399, R423)

-- what a step refuses: nothing but where it answers a refusal
abbrev pub answer_number : Answer → ℕ
answer_number (Char c start) = 0
answer_number (Ligature c start n left right) = 0
answer_number (Kern k) = 0
answer_number End = 0
answer_number (Refused n) = n

-- begin is in turn: no word is open, every item was taken, and one more word of its caller can be counted
abbrev pub may_begin : ℕ → Chip → Bool
may_begin caller chip = both (not chip.opened) (both (not (item_ready chip)) (can_count caller chip))

-- 26 (R423): a caller above 7
abbrev pub caller_refusal : ℕ → ℕ
caller_refusal caller = unless 26 (leb caller 7)

-- add is in turn: a word is open that is not full
abbrev pub may_add : Chip → Bool
may_add chip = both chip.opened (ltb chip.length 64)

-- 22 for a command out of turn; of one in turn what its caller or its step refuses
abbrev pub in_turn : Bool → ℕ → ℕ
in_turn turn n = cond turn n 22

-- by the command: of begin also 7 for a table that is not of the form, and 26 after 22; 21 for an unknown one
abbrev pub turn_refusal : List ℤ → List ℤ → ℤ → List ℕ → Chip → ℕ
turn_refusal pairs ops boundary block chip =
    cond (eqb (block_command block) 1) (or_else (table_refusal pairs ops) (in_turn (may_begin (block_caller block) chip) (caller_refusal (block_caller block))))
    (cond (eqb (block_command block) 2) (in_turn (may_add chip) 0)
    (cond (eqb (block_command block) 3) (in_turn chip.opened (answer_number (chip_step pairs ops boundary chip).answer))
    (cond (eqb (block_command block) 4) (in_turn (item_ready chip) (answer_number (chip_step pairs ops boundary chip).answer)) 21)))

-- 4, 7, 15, 21, 22 or 26, the lowest that holds; a block under 16 bytes has no command
abbrev pub command_refusal : List ℤ → List ℤ → ℤ → List ℕ → Chip → ℕ
command_refusal pairs ops boundary block chip =
    or_else (absent_refusal 255 boundary)
    (or_else (chip_refusal chip)
    (cond (leb 16 (length block)) (turn_refusal pairs ops boundary block chip) 15))

-- ---- the answer

-- by the refusal: the number, and the chip after the command, or as it was
abbrev pub commanded_by : ℕ → Chip → Chip → Commanded
commanded_by zero after chip = record { number = 0; chip = after }
commanded_by (suc n) after chip = record { number = suc n; chip = chip }

-- what a command answers
abbrev pub command_of : List ℤ → List ℤ → ℤ → List ℕ → Chip → Commanded
command_of pairs ops boundary block chip =
    commanded_by (command_refusal pairs ops boundary block chip) (chip_after pairs ops boundary block chip) chip

-- by the refusal: the block that shows the chip, or as it was
abbrev pub block_by : ℕ → List ℕ → Chip → List ℕ
block_by zero block after = shown_block block after
block_by (suc n) block after = block

-- THE contract of `command`: the number, the chip and the block, whatever the table, the block and the chip
pub record Commands (pairs ops : List ℤ) (boundary : ℤ) (block : List ℕ) (chip : Chip) (r : Commanded) (block' : List ℕ) : Type 0 where
  pub number : r.number ≡ (command_of pairs ops boundary block chip).number
  pub chip_after_lem : r.chip ≡ (command_of pairs ops boundary block chip).chip
  pub block_after : block' ≡
      block_by (command_refusal pairs ops boundary block chip) block (chip_after pairs ops boundary block chip)
