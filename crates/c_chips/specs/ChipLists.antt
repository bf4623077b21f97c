-- A chip as 91 numbers of a list (R400, R426): whether a word is open, its length, 7 of the item as `ligkern_step` tells it with its value as 32
-- bits, 9 of the state (c_states/specs/States), 64 letters, the words that each of the eight callers ended, and the caller of the last begin. And
-- back: the numbers that are a chip's. All zeros are a fresh one.
use Rattle.std.specs.Prelude.{◌≡◌, Bool, cond, List, [], ◌∷◌, ◌++◌, ℕ, zero, suc, ◌+◌, ◌-◌, leb, ℤ, length, get_or, take, drop, replicate}
use Rattle.words.specs.Words.{word_of, number_of}
use Rattle.lang.specs.Every.{both, every}
use Rattle.lang.specs.Checks.{or_else, absent_refusal}
use Rattle.captions.specs.declared.State.{State}
use Rattle.captions.specs.declared.Answer.{Answer}
use Rattle.captions.specs.declared.Answer.TheVariants.{Char, Ligature, Kern, End, Refused}
use Rattle.c_states.specs.States.{flag_bit, numbers_of, flag_of, state_at, is_state}
use Rattle.chips.specs.declared.Chip.{Chip}
use Rattle.chips.specs.Commands.{fresh_chip, chip_refusal, block_by}

-- ---- a chip's numbers

-- 1, and kind, value, start, length, left and right flag; zeros for no item
abbrev pub shown_numbers : Answer → List ℕ
shown_numbers (Char c start) = 1 ∷ 0 ∷ c ∷ start ∷ 1 ∷ 0 ∷ 0 ∷ []
shown_numbers (Ligature c start n left right) = 1 ∷ 1 ∷ c ∷ start ∷ n ∷ flag_bit left ∷ flag_bit right ∷ []
shown_numbers (Kern k) = 1 ∷ 2 ∷ word_of k ∷ 0 ∷ 0 ∷ 0 ∷ 0 ∷ []
shown_numbers End = replicate 7 0
shown_numbers (Refused n) = replicate 7 0

abbrev pub chip_numbers : Chip → List ℕ
chip_numbers chip =
    (flag_bit chip.opened ∷ chip.length ∷ shown_numbers chip.item) ++ numbers_of chip.state ++ chip.letters ++ chip.counts
    ++ (chip.caller ∷ [])

-- ---- back

-- a number of 32 bits
abbrev pub is_word : ℕ → Bool
is_word n = leb n 4294967295

-- a number at a place of the list that is a word's
abbrev pub is32_bits : List ℕ → ℕ → Bool
is32_bits ns i = is_word (get_or ns i 0)

-- the seven of an item: its flag, its kind, its value, and the left and right flag
abbrev pub is_shown : List ℕ → Bool
is_shown ns = both (leb (get_or ns 2 0) 1) (both (leb (get_or ns 3 0) 2) (both (is32_bits ns 4) (both (leb (get_or ns 7 0) 1) (leb (get_or ns 8 0) 1))))

-- the letters of the word; those past its length are not read
abbrev pub are_letters : List ℕ → Bool
are_letters ns = both (leb (get_or ns 1 0) 64) (every (get_or ns 1 0) (λ i. is_word (get_or (drop 18 ns) i 0)))

-- the eight counts, and the caller
abbrev pub are_counts : List ℕ → Bool
are_counts ns = both (every 8 (λ i. is_word (get_or (drop 82 ns) i 0))) (is32_bits ns 90)

-- 91 numbers that are a chip's
abbrev pub is_chip : List ℕ → Bool
is_chip ns =
    both (leb 91 (length ns))
    (both (leb (get_or ns 0 0) 1)
    (both (is_shown ns)
    (both (is_state (drop 9 ns))
    (both (are_letters ns) (are_counts ns)))))

-- an item by its kind, 0 a character, 1 a ligature, any other a kern, and the other numbers
abbrev pub shown_by : ℕ → ℕ → ℕ → ℕ → Bool → Bool → Answer
shown_by zero value start n left right = Char value start
shown_by (suc zero) value start n left right = Ligature value start n left right
shown_by (suc (suc k)) value start n left right = Kern (number_of value)

-- the item, by its flag
abbrev pub shown_at : List ℕ → Answer
shown_at ns = cond (flag_of (get_or ns 2 0)) (shown_by (get_or ns 3 0) (get_or ns 4 0) (get_or ns 5 0) (get_or ns 6 0) (flag_of (get_or ns 7 0)) (flag_of (get_or ns 8 0))) End

-- so many letters, and zeros
abbrev pub letters_at : ℕ → List ℕ → List ℕ
letters_at n ns = take n (drop 18 ns) ++ replicate (64 - n) 0

-- the chip that 91 numbers are
abbrev pub chip_at : List ℕ → Chip
chip_at ns =
    record {
      opened = flag_of (get_or ns 0 0);
      length = get_or ns 1 0;
      letters = letters_at (get_or ns 1 0) ns;
      counts = take 8 (drop 82 ns);
      caller = get_or ns 90 0;
      item = shown_at ns;
      state = state_at (drop 9 ns);
    }

-- a chip of 65 letters, which stands for numbers that are no chip's: every command refuses it with 7, or with 4
abbrev pub no_chip : Chip
no_chip =
    record {
      opened = fresh_chip.opened;
      length = 65;
      letters = fresh_chip.letters;
      counts = fresh_chip.counts;
      caller = fresh_chip.caller;
      item = fresh_chip.item;
      state = fresh_chip.state;
    }

-- the chip at the front of a list
abbrev pub chip_read : List ℕ → Chip
chip_read ns = cond (is_chip ns) (chip_at ns) no_chip

-- ---- a command on the chip that stands in a list

-- by the number: the chip's numbers, and what stands after them; or all as it was
abbrev pub chip_moved : ℕ → List ℕ → Chip → List ℕ
chip_moved zero ns chip = chip_numbers chip ++ drop 91 ns
chip_moved (suc n) ns chip = ns

-- 4, 7 and 15, which are refused before a command is looked at, and then this number
abbrev pub after_early : ℤ → Chip → ℕ → ℕ → ℕ
after_early boundary chip bytes n = or_else (absent_refusal 255 boundary) (or_else (chip_refusal chip) (cond (leb 16 bytes) n 15))

-- what a command leaves, by its number and the chip after it: the number itself, the block, and the list
pub record MovesChip (n : ℕ) (after : Chip) (block ns : List ℕ) (r : ℕ) (block' ns' : List ℕ) : Type 0 where
  pub number : r ≡ n
  pub shown : block' ≡ block_by n block after
  pub moved : ns' ≡ chip_moved n ns after

-- a chip with these in the place of its own: whether a word is open, the item, and the run
abbrev pub chip_with : Bool → Answer → State → Chip → Chip
chip_with opened item state chip =
    record {
      opened = opened;
      length = chip.length;
      letters = chip.letters;
      counts = chip.counts;
      caller = chip.caller;
      item = item;
      state = state;
    }
