-- The word after a word (R436, R437): the contract of `next_word`.
use Rattle.std.specs.Prelude.{cond, List, [], ◌∷◌, ℕ, zero, suc, pos, ltb, length, get_or, take, replicate}
use Rattle.std.proofs.Math.Option.{Option, none, some}
use Rattle.lang.specs.Checks.{unless}
use Rattle.lang.specs.Answers.{Reply, reply_of}
use Rattle.letter_set.specs.LetterSets.{letter_from}
use Rattle.short_words.specs.declared.ShortWord.{ShortWord}
use Rattle.short_words.specs.declared.NextAnswer.{NextAnswer}
use Rattle.short_words.specs.declared.NextAnswer.TheVariants.{Word, End, Refused}
use Rattle.short_words.specs.declared.NextWord.{NextWord}
use Rattle.short_words.specs.ShortWords.{is_short_word}

-- ---- the next word as a list

-- a letter is advanced to a greater one, if there is one, and n least letters stand after it
abbrev pub advanced_to : Option ℕ → ℕ → ℕ → Option (List ℕ)
advanced_to none n least = none
advanced_to (some d) n least = some (d ∷ replicate n least)

-- a letter kept before what is advanced after it; where nothing is, what it becomes itself
abbrev pub kept_before : ℕ → Option (List ℕ) → Option (List ℕ) → Option (List ℕ)
kept_before c (some cs) own = some (c ∷ cs)
kept_before c none own = own

-- the next word of the same length: the last place whose letter has a greater one in the set gets the least such, and every place after it
-- the least letter of all
unfoldable pub next_as_long : List ℕ → ℕ → List ℕ → Option (List ℕ)
next_as_long letters least [] = none
next_as_long letters least (c ∷ cs) = kept_before c (next_as_long letters least cs) (advanced_to (letter_from letters (suc c)) (length cs) least)

-- where no place has one: one letter longer, all of them the least; after four letters the end
abbrev pub or_longer : Option (List ℕ) → ℕ → ℕ → Option (List ℕ)
or_longer (some next) n least = some next
or_longer none n least = cond (ltb n 4) (some (replicate (suc n) least)) none

-- by the least letter of all; a set without letters has no word but the empty one
abbrev pub next_by_least : Option ℕ → List ℕ → List ℕ → Option (List ℕ)
next_by_least none letters word = none
next_by_least (some least) letters word = or_longer (next_as_long letters least word) (length word) least

-- the word after a word over the set, or the end (R436)
abbrev pub next_short_word : List ℕ → List ℕ → Option (List ℕ)
next_short_word letters word = next_by_least (letter_from letters 0) letters word

-- ---- as it is answered

-- 27 (R437): a word of more than four letters, or with one outside the set
abbrev pub short_refusal : List ℕ → List ℕ → ℕ
short_refusal letters word = unless 27 (is_short_word letters word)

-- a word in four places, zeros after it
abbrev pub short_word : List ℕ → ShortWord
short_word w = record { length = length w; letters = get_or w 0 0 ∷ get_or w 1 0 ∷ get_or w 2 0 ∷ get_or w 3 0 ∷ [] }

-- the word that it holds
abbrev pub held_word : ShortWord → List ℕ
held_word w = take w.length w.letters

-- no word is answered but the answer itself
abbrev pub no_word : NextAnswer → NextWord
no_word a = record { answer = a; word = short_word [] }

abbrev pub next_found : Option (List ℕ) → NextWord
next_found none = no_word End
next_found (some w) = record { answer = Word; word = short_word w }

-- THE contract of next_word, by the number of its refusal
abbrev pub next_word_by : ℕ → Option (List ℕ) → NextWord
next_word_by zero next = next_found next
next_word_by (suc n) next = no_word (Refused (suc n))

abbrev pub next_word_of : List ℕ → List ℕ → NextWord
next_word_of letters word = next_word_by (short_refusal letters word) (next_short_word letters word)

-- an answer as a number and values (R285): 1, or 0 at the end; or the number of a refusal
abbrev pub next_answer_reply : NextAnswer → Reply
next_answer_reply Word = reply_of 0 (pos 1 ∷ [])
next_answer_reply End = reply_of 0 (pos 0 ∷ [])
next_answer_reply (Refused n) = record { number = n; values = [] }
