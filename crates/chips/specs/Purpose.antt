-- What the chip is for (R390): over any list of blocks, from a fresh chip, each command handed the chip that the last one returned, the items
-- that are taken are those of the words that were ended. Proved: proofs/Theorems. No contract cites this.
use Rattle.std.specs.Prelude.{◌≡◌, Bool, true, false, cond, List, [], ◌∷◌, ◌++◌, map, ◌↔◌, ℕ, zero, suc, ◌<◌, ◌≤◌, ℤ, pos, eqb, length, get_or, take, drop, replicate}
use Rattle.lang.specs.Every.{both, every}
use Rattle.lang.specs.Checks.{absent_refusal}
use Rattle.captions.specs.declared.State.{State}
use Rattle.captions.specs.declared.Answer.{Answer}
use Rattle.captions.specs.declared.Answer.TheVariants.{Char, Ligature, Kern, End, Refused}
use Rattle.captions.specs.declared.Begun.TheVariants.{Run}
use Rattle.captions.specs.Form.{table_refusal}
use Rattle.captions.specs.Begin.{begin_of, plain_options}
use Rattle.captions.specs.Runs.{answers}
use Rattle.chips.specs.declared.Chip.{Chip}
use Rattle.chips.specs.Blocks.{block_byte, block_command, item_ready, caller_count, high_first, item_bytes, shown_block}
use Rattle.chips.specs.Commands.{fresh_chip, chip_word, command_refusal, chip_after, command_of}
use Rattle.chips.specs.Callers.{ChipCall, EndedWord, word_after, calls_of, calls_on, words_by}

-- ---- commands one after the other

-- What is seen of them: the chip; the letters added since the last begin; the words that were ended; the items that were taken; and the
-- eight bytes that the last taken command wrote for its item.
pub record Trace : Type 0 where
  pub chip : Chip
  pub word : List ℕ
  pub ended : List (List ℕ)
  pub passed : List Answer
  pub shown : List ℕ

-- before the first command
abbrev pub fresh_trace : Trace
fresh_trace = record { chip = fresh_chip; word = []; ended = []; passed = []; shown = replicate 8 0 }

-- read off a taken command: end ends the word
abbrev pub ended_after : List ℕ → List ℕ → List (List ℕ) → List (List ℕ)
ended_after block word words = cond (eqb (block_command block) 3) (words ++ (word ∷ [])) words

-- take takes the item that is shown
abbrev pub passed_after : List ℕ → Answer → List Answer → List Answer
passed_after block item items = cond (eqb (block_command block) 4) (items ++ (item ∷ [])) items

-- by the refusal of a command: what is seen after it; nothing new after one that is refused
abbrev pub trace_by : ℕ → List ℕ → Chip → Trace → Trace
trace_by zero block chip t =
    record {
      chip = chip;
      word = word_after block t.word;
      ended = ended_after block t.word t.ended;
      passed = passed_after block t.chip.item t.passed;
      shown = take 8 (drop 8 (shown_block block chip));
    }
trace_by (suc n) block chip t =
    record { chip = chip; word = t.word; ended = t.ended; passed = t.passed; shown = t.shown }

-- after commands by these blocks, on one table and boundary character
unfoldable pub trace_from : List ℤ → List ℤ → ℤ → Trace → List (List ℕ) → Trace
trace_from pairs ops boundary t [] = t
trace_from pairs ops boundary t (block ∷ blocks) =
    trace_from pairs ops boundary
    (trace_by (command_of pairs ops boundary block t.chip).number block (command_of pairs ops boundary block t.chip).chip t) blocks

abbrev pub trace_of : List ℤ → List ℤ → ℤ → List (List ℕ) → Trace
trace_of pairs ops boundary blocks = trace_from pairs ops boundary fresh_trace blocks

-- ---- the items of words

-- the first n of a list of items, and then the end for ever
unfoldable pub items_then_end : ℕ → List Answer → List Answer
items_then_end zero items = []
items_then_end (suc n) [] = End ∷ items_then_end n []
items_then_end (suc n) (i ∷ items) = i ∷ items_then_end n items

-- a character, a ligature or a kern
abbrev pub gives_item : Answer → Bool
gives_item (Char c start) = true
gives_item (Ligature c start n left right) = true
gives_item (Kern k) = true
gives_item End = false
gives_item (Refused n) = false

-- the steps from a state give these items, and then the end for ever
pub record RunGives (pairs ops : List ℤ) (boundary : ℤ) (word : List ℕ) (s : State) (items : List Answer) : Type 0 where
  pub answered : (n : ℕ) → answers pairs ops boundary word plain_options n s ≡ items_then_end n items
  pub only_items : every (length items) (λ i. gives_item (get_or items i End)) ≡ true

-- begin takes a word, and its run gives these items
pub record WordGives (pairs ops : List ℤ) (boundary : ℤ) (word : List ℕ) (items : List Answer) : Type 0 where
  pub start : State
  pub begins : begin_of pairs ops boundary word plain_options ≡ Run start
  pub gives : RunGives pairs ops boundary word start items

-- the items of words, joined in order
pub data WordsGive (pairs ops : List ℤ) (boundary : ℤ) : List (List ℕ) → List Answer → Type 0 where
  no_words : WordsGive pairs ops boundary [] []
  one_more : {words : List (List ℕ)} {items : List Answer} → WordsGive pairs ops boundary words items →
      (word : List ℕ) (own : List Answer) → WordGives pairs ops boundary word own →
      WordsGive pairs ops boundary (words ++ (word ∷ [])) (items ++ own)

-- the items of a chip that are not taken yet: none where none is ready, else the one that is shown and those that its run gives after it
abbrev pub Untaken : List ℤ → List ℤ → ℤ → Chip → List Answer → Type 0
Untaken pairs ops boundary chip [] = item_ready chip ≡ false
Untaken pairs ops boundary chip (i ∷ items) =
    (item_ready chip ≡ true) × (chip.item ≡ i) × RunGives pairs ops boundary (chip_word chip) chip.state items

-- ---- what is proved

-- the items taken, then those not taken yet, are the items of the words that were ended
pub record TakenInOrder (pairs ops : List ℤ) (boundary : ℤ) (t : Trace) : Type 0 where
  pub items : List Answer
  pub of_words : WordsGive pairs ops boundary t.ended items
  pub untaken : List Answer
  pub to_take : Untaken pairs ops boundary t.chip untaken
  pub joined : t.passed ++ untaken ≡ items

-- THE theorem: so after any commands on one table and boundary character.
abbrev pub ChipItems : Type 0
ChipItems = (pairs ops : List ℤ) (boundary : ℤ) (blocks : List (List ℕ)) → TakenInOrder pairs ops boundary (trace_of pairs ops boundary blocks)

-- When a begin is taken, every item was.
abbrev pub NoneLeftAtBegin : Type 0
NoneLeftAtBegin =
    (pairs ops : List ℤ) (boundary : ℤ) (block : List ℕ) (chip : Chip) → block_command block ≡ 1 →
    command_refusal pairs ops boundary block chip ≡ 0 → item_ready chip ≡ false

-- The item that a take passes is the one whose eight bytes the last taken command wrote.
abbrev pub ShownIsNext : Type 0
ShownIsNext =
    (pairs ops : List ℤ) (boundary : ℤ) (blocks : List (List ℕ)) →
    (trace_of pairs ops boundary blocks).shown ≡ item_bytes (trace_of pairs ops boundary blocks).chip.item

-- every number of every block is a byte, as in every list of bytes that is lent
abbrev pub BytesAlone : List (List ℕ) → Type 0
BytesAlone blocks = (i j : ℕ) → block_byte (get_or blocks i []) j < 256

-- On a table of the form and a boundary character in range no end and no take in turn is refused, after any commands.
abbrev pub NoneRefusedInTurn : Type 0
NoneRefusedInTurn =
    (pairs ops : List ℤ) (boundary : ℤ) → table_refusal pairs ops ≡ 0 → absent_refusal 255 boundary ≡ 0 →
    (blocks : List (List ℕ)) → BytesAlone blocks → (block : List ℕ) → 16 ≤ length block →
    (block_command block ≡ 3 → (trace_of pairs ops boundary blocks).chip.opened ≡ true →
    command_refusal pairs ops boundary block (trace_of pairs ops boundary blocks).chip ≡ 0)
    × (block_command block ≡ 4 → item_ready (trace_of pairs ops boundary blocks).chip ≡ true →
    command_refusal pairs ops boundary block (trace_of pairs ops boundary blocks).chip ≡ 0)

-- Two blocks of 16 bytes or more that agree on bytes 0, 1 and 3 are answered alike: the number, the chip, and the bytes written.
abbrev pub AnsweredAlike : Type 0
AnsweredAlike =
    (pairs ops : List ℤ) (boundary : ℤ) (chip : Chip) (a b : List ℕ) → 16 ≤ length a → 16 ≤ length b →
    block_byte a 0 ≡ block_byte b 0 → block_byte a 1 ≡ block_byte b 1 → block_byte a 3 ≡ block_byte b 3 →
    (command_of pairs ops boundary a chip ≡ command_of pairs ops boundary b chip)
    × ((shown : Chip) → take 14 (drop 2 (shown_block a shown)) ≡ take 14 (drop 2 (shown_block b shown)))

-- After a taken command, whatever the chip was: an item ready and a word open are never both shown, and bytes 8 to 15 are zeros exactly when
-- nothing is ready.
abbrev pub ReadyOrOpen : Type 0
ReadyOrOpen =
    (pairs ops : List ℤ) (boundary : ℤ) (block : List ℕ) (chip : Chip) → command_refusal pairs ops boundary block chip ≡ 0 →
    (both (item_ready (chip_after pairs ops boundary block chip)) (chip_after pairs ops boundary block chip).opened ≡ false)
    × ((item_bytes (chip_after pairs ops boundary block chip).item ≡ replicate 8 0)
    ↔ (item_ready (chip_after pairs ops boundary block chip) ≡ false))

-- ---- whose words

-- A caller's count is its own words, after any calls, each with whatever block, table and boundary character: as many as it ended, read off the
-- taken commands. And it never wraps.
abbrev pub CountIsOwnWords : Type 0
CountIsOwnWords =
    (calls : List ChipCall) (c : ℕ) →
    (caller_count c (calls_of calls).chip ≡ length (words_by c (calls_of calls).ended)) × (caller_count c (calls_of calls).chip ≤ 4294967295)

-- So two lists of calls, on other tables, with any words of other callers and any refused commands between, that agree on the words that c ended
-- agree on the count of c.
--
-- Whether a begin is TAKEN may depend on others. The smallest example: caller 3 begins, and caller 5's begin is 22 while that word is open; without
-- caller 3 it is taken (`BeginMayWait`).
abbrev pub SameWordsSameCount : Type 0
SameWordsSameCount =
    (calls others : List ChipCall) (c : ℕ) → words_by c (calls_of calls).ended ≡ words_by c (calls_of others).ended →
    caller_count c (calls_of calls).chip ≡ caller_count c (calls_of others).chip

-- a begin of a caller, on a table without pairs
abbrev begin_of_caller : ℕ → List ℕ
begin_of_caller c = 1 ∷ c ∷ replicate 14 0

abbrev pub BeginMayWait : Type 0
BeginMayWait =
    (command_refusal [] [] (pos 0) (begin_of_caller 5) fresh_chip ≡ 0)
    × (command_refusal [] [] (pos 0) (begin_of_caller 5) (command_of [] [] (pos 0) (begin_of_caller 3) fresh_chip).chip ≡ 22)

-- On one table these words are those of THE theorem, each with its caller.
abbrev pub SameWords : Type 0
SameWords =
    (pairs ops : List ℤ) (boundary : ℤ) (blocks : List (List ℕ)) →
    map (λ (w : EndedWord). w.letters) (calls_of (calls_on pairs ops boundary blocks)).ended ≡ (trace_of pairs ops boundary blocks).ended

-- What is shown: bytes 4 to 7, as the last taken command wrote them, are the count of the caller of the last begin taken.
abbrev pub CountShown : Type 0
CountShown = (calls : List ChipCall) → (calls_of calls).shown ≡ high_first (caller_count (calls_of calls).caller (calls_of calls).chip)

-- No call, taken or refused, moves a count other than that of the chip's caller.
abbrev pub OthersStay : Type 0
OthersStay =
    (pairs ops : List ℤ) (boundary : ℤ) (block : List ℕ) (chip : Chip) (c : ℕ) → (c ≡ chip.caller → ⊥) →
    caller_count c (command_of pairs ops boundary block chip).chip ≡ caller_count c chip
