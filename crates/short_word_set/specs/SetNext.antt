-- The next short word with its items (R439): the contract of `set_next`. Numbers, the lowest first: 4 of the boundary character, 7 and 15 of
-- the items, 27 of the word. 7 and 15 are of a next word that exists, so that neither holds where 27 does, or at the end.
use Rattle.std.specs.Prelude.{◌≡◌, Bool, List, [], ℕ, zero, suc, ◌/◌, ℤ, pos, eqb, length}
use Rattle.std.proofs.Math.Option.{Option, none, some}
use Rattle.lang.specs.Checks.{or_else, absent_refusal}
use Rattle.lang.specs.Answers.{Reply, reply_of, list_of}
use Rattle.word_set.specs.Setting.{after_begin}
use Rattle.short_words.specs.declared.ShortWord.{ShortWord}
use Rattle.short_words.specs.declared.NextAnswer.{NextAnswer}
use Rattle.short_words.specs.declared.NextAnswer.TheVariants.{Word, Refused}
use Rattle.short_words.specs.declared.NextWord.{NextWord}
use Rattle.short_words.specs.declared.SetNext.{SetNext}
use Rattle.short_words.specs.NextWords.{next_short_word, short_refusal, short_word, next_found}
use Rattle.short_word_items.specs.NextItems.{next_word_items}

-- of a next word that exists; at the end there are none
abbrev pub items_of_next : Option (List ℕ) → Bool → List ℤ → List ℤ → ℤ → ℕ → Reply
items_of_next none first pairs ops boundary room = reply_of 0 []
items_of_next (some next) first pairs ops boundary room = next_word_items first pairs ops boundary next room

-- 4 or 27, else what is set
abbrev pub set_next_reply : List ℕ → List ℤ → List ℤ → ℤ → List ℕ → ℕ → Reply
set_next_reply letters pairs ops boundary word room =
    after_begin (or_else (absent_refusal 255 boundary) (short_refusal letters word))
    (items_of_next (next_short_word letters word) (eqb (length word) 0) pairs ops boundary room)

-- there is a next word
abbrev pub word_found : ShortWord → NextWord
word_found w = record { answer = Word; word = w }

-- no word, and no items
abbrev pub not_set : NextAnswer → SetNext
not_set a = record { answer = a; word = short_word []; count = 0 }

-- by the number: the next word or the end, and how many items; or the number alone
abbrev pub set_next_by : ℕ → NextWord → ℕ → SetNext
set_next_by zero next count = record { answer = next.answer; word = next.word; count = count }
set_next_by (suc n) next count = not_set (Refused (suc n))

-- what is answered for a next word by the reply of its items, and the numbers of the items and zeros; or zeros
pub record SetsFound (reply : Reply) (next : NextWord) (items : List ℤ) (r : SetNext) (items' : List ℤ) : Type 0 where
  pub answer : r ≡ set_next_by reply.number next (length reply.values / 6)
  pub list : items' ≡ list_of reply.number (pos 0) (length items) reply.values

-- THE contract of set_next
abbrev pub SetsNext : List ℕ → List ℤ → List ℤ → ℤ → List ℕ → List ℤ → SetNext → List ℤ → Type 0
SetsNext letters pairs ops boundary word items r items' =
    SetsFound (set_next_reply letters pairs ops boundary word (length items)) (next_found (next_short_word letters word)) items r items'
