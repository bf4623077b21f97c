-- The next short word and its items in lists (R439, R215): the contract of `ligkern_next_word`.
use Rattle.std.specs.Prelude.{◌≡◌, List, ℕ, ◌/◌, ℤ, pos, length}
use Rattle.lang.specs.Checks.{lower}
use Rattle.lang.specs.Answers.{Reply, list_of, room_refusal}
use Rattle.short_words.specs.declared.NextWord.{NextWord}
use Rattle.short_word_set.specs.SetNext.{set_next_by}
use Rattle.c_word_write.specs.NextLists.{letter_numbers, next_values}

-- set_next's number, and 15 where n places do not hold the letters, or m the values (R216): the lowest, so that 15 comes before 27
abbrev pub next_short_number : Reply → ℕ → ℕ → ℕ
next_short_number reply n m = lower reply.number (lower (room_refusal 4 n) (room_refusal 3 m))

-- the number, and what the three lists hold: the letters, the numbers of the items, and the values, with zeros after them; or zeros
pub record TellsNext (reply : Reply) (found : NextWord) (next : List ℕ) (items : List ℤ) (values : List ℕ) (r : ℕ) (next' : List ℕ)
    (items' : List ℤ) (values' : List ℕ) : Type 0 where
  pub number : r ≡ next_short_number reply (length next) (length values)
  pub word : next' ≡ list_of (next_short_number reply (length next) (length values)) 0 (length next) (letter_numbers found.word)
  pub list : items' ≡ list_of (next_short_number reply (length next) (length values)) (pos 0) (length items) reply.values
  pub told : values' ≡ list_of (next_short_number reply (length next) (length values)) 0 (length values)
      (next_values (set_next_by reply.number found (length reply.values / 6)))
