-- Letters given by an index: the look-up of crate word_plain_letters by an index, and what it is for. The contract of set_letters is
-- `GivesItems` of word_plain_letters/specs/PlainLetters, by the steps of the index.
use Rattle.std.specs.Prelude.{cond, List, ℕ, ◌-◌, ℤ}
use Rattle.captions.specs.declared.RunOptions.{RunOptions}
use Rattle.captions.specs.declared.State.{State}
use Rattle.captions.specs.Tables.{pair_count}
use Rattle.word_plain_letters.specs.PlainLetters.{letters_moved}
use Rattle.word_plain_letters.specs.Purpose.{StepsQuickly}
use Rattle.index.specs.Index.{has_bit, looked_up, looked_place}
use Rattle.index_step.specs.Indexed.{indexed_step_of}
use Rattle.index_plain_letters.specs.declared.LettersSet.{LettersSet}

-- the place of a left's and a letter's pair, by the index
abbrev pub index_place : List ℕ → List ℤ → ℕ → ℕ → ℕ
index_place index pairs left letter = looked_place (pair_count pairs) (looked_up index pairs left letter)

-- no more than whether there is one: 1 where the bit is set
abbrev pub bit_place : List ℕ → ℕ → ℕ → ℕ
bit_place index left letter = cond (has_bit index left letter) 1 0

-- where i letters end, of which m items were given, with the left that is then next
abbrev pub letters_done : State → ℕ → ℕ → ℕ → ℕ → LettersSet
letters_done s l o i m = record { state = letters_moved s (l - 1) o i; count = m }

-- a step by the index keeps the laws of a loop over letters, whatever the index and the table
abbrev pub IndexGoesQuickly : Type 0
IndexGoesQuickly =
    (index : List ℕ) (pairs ops : List ℤ) (boundary : ℤ) (word : List ℕ) (options : RunOptions) →
    StepsQuickly (index_place index pairs) pairs ops boundary word options (indexed_step_of index pairs ops boundary word options)
