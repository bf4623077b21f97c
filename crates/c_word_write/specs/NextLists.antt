-- What set_next answered, in lists (R439, R215): the contract of `write_next`.
use Rattle.std.specs.Prelude.{◌≡◌, List, [], ◌∷◌, ℕ, ℤ, pos, length, get_or}
use Rattle.lang.specs.Checks.{lower}
use Rattle.lang.specs.Answers.{list_of, room_refusal}
use Rattle.c_values.specs.Telling.{natural, kept}
use Rattle.short_words.specs.declared.ShortWord.{ShortWord}
use Rattle.short_words.specs.declared.SetNext.{SetNext}
use Rattle.short_words.specs.NextWords.{next_answer_reply}

-- the four letters of a word
abbrev pub letter_numbers : ShortWord → List ℕ
letter_numbers w = get_or w.letters 0 0 ∷ get_or w.letters 1 0 ∷ get_or w.letters 2 0 ∷ get_or w.letters 3 0 ∷ []

-- what is told of an answer: its own value, 1 or at the end 0; the word's length; how many items
abbrev pub next_values : SetNext → List ℕ
next_values told = natural (get_or (next_answer_reply told.answer).values 0 (pos 0)) ∷ told.word.length ∷ told.count ∷ []

-- THE contract of write_next: the lowest of the answer's number and 15 of both lists (R216), and what the three lists hold by it
pub record WritesNext (told : SetNext) (next : List ℕ) (items : List ℤ) (values : List ℕ) (r : ℕ) (next' : List ℕ) (items' : List ℤ)
    (values' : List ℕ) : Type 0 where
  pub number : r ≡ lower (next_answer_reply told.answer).number (lower (room_refusal 4 (length next)) (room_refusal 3 (length values)))
  pub word : next' ≡ list_of r 0 (length next) (letter_numbers told.word)
  pub list : items' ≡ kept r (pos 0) items
  pub tells : values' ≡ list_of r 0 (length values) (next_values told)
