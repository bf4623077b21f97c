-- What a word set by an index over a checked table is for (R415): on a table that the check takes (R411), set_checked_word_indexed answers
-- and writes what set_word_indexed does over any index, and so on the list that fill_index wrote what set_word does. Proved in
-- proofs/Theorems.
use Rattle.std.specs.Prelude.{◌≡◌, List, ℕ, ◌*◌, ◌≤◌, ℤ, length}
use Rattle.lang.specs.declared.Written.{Written}
use Rattle.reading.specs.Items.{Out}
use Rattle.fonts.specs.Fonts.{Font}
use Rattle.captions.specs.declared.RunOptions.{RunOptions}
use Rattle.captions.specs.Form.{table_refusal}
use Rattle.captions.specs.Demand3.{Answered}
use Rattle.word_set.specs.Setting.{set_reply, Sets}
use Rattle.word_set.specs.Writing.{Tells}
use Rattle.word_set.specs.Purpose.{SetAs, AllLetters}
use Rattle.index.specs.Index.{FillsIndex}
use Rattle.index_set_word.specs.Whole.{indexed_reply}
use Rattle.index_set_checked.specs.Checked.{checked_indexed_reply}

-- the reply is that of set_word_indexed, over any index
abbrev pub CheckedIndexedSets : Type 0
CheckedIndexedSets =
    (index : List ℕ) (pairs ops : List ℤ) → table_refusal pairs ops ≡ 0 →
    (boundary : ℤ) (word : List ℕ) (options : RunOptions) (room : ℕ) →
    checked_indexed_reply index pairs ops boundary word options room ≡ indexed_reply index pairs ops boundary word options room

-- on the list that fill_index wrote for the pairs, it is that of set_word
abbrev pub CheckedFilledSets : Type 0
CheckedFilledSets =
    (pairs ops : List ℤ) (index index' : List ℕ) → FillsIndex pairs index 0 index' → table_refusal pairs ops ≡ 0 →
    (boundary : ℤ) (word : List ℕ) (options : RunOptions) (room : ℕ) →
    checked_indexed_reply index' pairs ops boundary word options room ≡ set_reply pairs ops boundary word options room

-- so what set_checked_word_indexed promises is what set_word promises
abbrev pub CheckedFilledSetsAsWell : Type 0
CheckedFilledSetsAsWell =
    (pairs ops : List ℤ) (index index' : List ℕ) → FillsIndex pairs index 0 index' → table_refusal pairs ops ≡ 0 →
    (boundary : ℤ) (word : List ℕ) (options : RunOptions) (items : List ℤ) (r : Written) (items' : List ℤ) →
    Tells (checked_indexed_reply index' pairs ops boundary word options (length items)) items r items' →
    Sets pairs ops boundary word options items r items'

-- `EveryWord` of it: where demand 3 says that a run answers these items, the reply is that of set_word, which has their numbers
abbrev pub EveryCheckedIndexedWord : Type 0
EveryCheckedIndexedWord =
    (f : Font) (pairs ops : List ℤ) (index index' : List ℕ) → FillsIndex pairs index 0 index' →
    (word : List ℕ) (options : RunOptions) (items : List Out) (room : ℕ) →
    Answered f pairs ops word options items → 6 * length items ≤ room →
    (checked_indexed_reply index' pairs ops f.boundary word options room ≡ set_reply pairs ops f.boundary word options room)
    × SetAs f pairs ops word options room items

-- no letter is lost (R387)
abbrev pub EveryCheckedIndexedLetter : Type 0
EveryCheckedIndexedLetter =
    (pairs ops : List ℤ) (index index' : List ℕ) → FillsIndex pairs index 0 index' → table_refusal pairs ops ≡ 0 →
    (boundary : ℤ) (word : List ℕ) (options : RunOptions) (room : ℕ) →
    (checked_indexed_reply index' pairs ops boundary word options room).number ≡ 0 →
    AllLetters word (checked_indexed_reply index' pairs ops boundary word options room)
