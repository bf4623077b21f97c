-- What a word set by an index is for (R141): on the list that fill_index wrote for a table, set_word_indexed answers and writes what
-- set_word does.
use Rattle.std.specs.Prelude.{List, ◌≡◌, ℕ, ℤ, length}
use Rattle.lang.specs.declared.Written.{Written}
use Rattle.captions.specs.declared.RunOptions.{RunOptions}
use Rattle.word_set.specs.Setting.{set_reply, Sets}
use Rattle.word_set.specs.Writing.{Tells}
use Rattle.word_set.specs.Purpose.{AllLetters}
use Rattle.index.specs.Index.{FillsIndex}
use Rattle.index_set_word.specs.Whole.{indexed_reply}

-- the reply is that of set_word
abbrev pub IndexedSets : Type 0
IndexedSets =
    (pairs ops : List ℤ) (index index' : List ℕ) → FillsIndex pairs index 0 index' →
    (boundary : ℤ) (word : List ℕ) (options : RunOptions) (room : ℕ) →
    indexed_reply index' pairs ops boundary word options room ≡ set_reply pairs ops boundary word options room

-- so what set_word_indexed promises is what set_word promises
abbrev pub SetsAsWell : Type 0
SetsAsWell =
    (pairs ops : List ℤ) (index index' : List ℕ) → FillsIndex pairs index 0 index' →
    (boundary : ℤ) (word : List ℕ) (options : RunOptions) (items : List ℤ) (r : Written) (items' : List ℤ) →
    Tells (indexed_reply index' pairs ops boundary word options (length items)) items r items' →
    Sets pairs ops boundary word options items r items'

-- so no letter is lost (R387): where it is not refused, its items have all letters of the word
abbrev pub EveryIndexedWord : Type 0
EveryIndexedWord =
    (pairs ops : List ℤ) (index index' : List ℕ) → FillsIndex pairs index 0 index' →
    (boundary : ℤ) (word : List ℕ) (options : RunOptions) (room : ℕ) →
    (indexed_reply index' pairs ops boundary word options room).number ≡ 0 →
    AllLetters word (indexed_reply index' pairs ops boundary word options room)
