-- What a word set over a checked table is for (R415): on a table that the check takes (R411), set_checked_word answers and writes what
-- set_word does, for every word, option and list; and the check takes every table that compile wrote. Proved in proofs/Theorems.
use Rattle.std.specs.Prelude.{◌≡◌, List, ℕ, ◌*◌, ◌≤◌, ℤ, length}
use Rattle.lang.specs.declared.Written.{Written}
use Rattle.reading.specs.Items.{Out}
use Rattle.fonts.specs.Fonts.{Font}
use Rattle.captions.specs.declared.RunOptions.{RunOptions}
use Rattle.captions.specs.Form.{table_refusal}
use Rattle.captions.specs.Demand3.{Answered, Demand3}
use Rattle.word_set.specs.Setting.{set_reply, Sets}
use Rattle.word_set.specs.Writing.{Tells}
use Rattle.word_set.specs.Purpose.{SetAs, AllLetters}
use Rattle.word_set_checked.specs.Checked.{checked_word_reply}

-- the reply is that of set_word
abbrev pub CheckedSets : Type 0
CheckedSets =
    (pairs ops : List ℤ) → table_refusal pairs ops ≡ 0 → (boundary : ℤ) (word : List ℕ) (options : RunOptions) (room : ℕ) →
    checked_word_reply pairs ops boundary word options room ≡ set_reply pairs ops boundary word options room

-- so what set_checked_word promises is what set_word promises
abbrev pub CheckedSetsAsWell : Type 0
CheckedSetsAsWell =
    (pairs ops : List ℤ) → table_refusal pairs ops ≡ 0 →
    (boundary : ℤ) (word : List ℕ) (options : RunOptions) (items : List ℤ) (r : Written) (items' : List ℤ) →
    Tells (checked_word_reply pairs ops boundary word options (length items)) items r items' → Sets pairs ops boundary word options items r items'

-- the check takes the tables that compile wrote, of which demand 3 speaks
abbrev pub CompiledIsTaken : Type 0
CompiledIsTaken = (f : Font) (l : ℕ) (pairs ops loops : List ℤ) → Demand3 f l pairs ops loops → table_refusal pairs ops ≡ 0

-- `EveryWord` of it: where demand 3 says that a run answers these items, the check takes the table, and the reply is that of set_word,
-- which has the numbers of these items
abbrev pub EveryCheckedWord : Type 0
EveryCheckedWord =
    (f : Font) (pairs ops : List ℤ) (word : List ℕ) (options : RunOptions) (items : List Out) (room : ℕ) →
    Answered f pairs ops word options items → 6 * length items ≤ room →
    (table_refusal pairs ops ≡ 0)
    × (checked_word_reply pairs ops f.boundary word options room ≡ set_reply pairs ops f.boundary word options room)
    × SetAs f pairs ops word options room items

-- no letter is lost (R387): on a checked table, where a word is not refused, its items have all letters of the word
abbrev pub EveryCheckedLetter : Type 0
EveryCheckedLetter =
    (pairs ops : List ℤ) → table_refusal pairs ops ≡ 0 → (boundary : ℤ) (word : List ℕ) (options : RunOptions) (room : ℕ) →
    (checked_word_reply pairs ops boundary word options room).number ≡ 0 → AllLetters word (checked_word_reply pairs ops boundary word options room)
