-- What is proved of the short words of a set (R438): `EveryShortWord`, and that a word which is answered is taken. Proved: proofs/Theorems.
use Rattle.std.specs.Prelude.{◌≡◌, true, List, [], ℕ, zero, suc, ◌<◌, ◌≤◌, length}
use Rattle.std.proofs.Math.Option.{Option, none, some}
use Rattle.std.proofs.Math.ListN.{get_elem?}
use Rattle.letter_set.specs.LetterSets.{alphabet_size, word_count}
use Rattle.short_words.specs.ShortWords.{short_words, is_short_word, Earlier}
use Rattle.short_words.specs.NextWords.{next_short_word, short_word, held_word}

-- ---- the listing

-- the word after a word that there is
abbrev pub then_next : (List ℕ → Option (List ℕ)) → Option (List ℕ) → Option (List ℕ)
then_next next none = none
then_next next (some w) = next w

-- the word after k turns from the empty word; none once the end was reached
unfoldable pub word_after_turns : List ℕ → ℕ → Option (List ℕ)
word_after_turns letters zero = some []
word_after_turns letters (suc k) = then_next (next_short_word letters) (word_after_turns letters k)

-- What the words of a set are. The next word again and again gives each of `shortWords` in order, and then the end; each word over the set of
-- at most four letters is among them, at one place, and no other is; they ascend; and there are so many as are counted.
pub record ListsAll (letters : List ℕ) : Type 0 where
  pub listed : (k : ℕ) → word_after_turns letters k ≡ get_elem? (short_words letters) k
  pub each : (word : List ℕ) → is_short_word letters word ≡ true → (k : ℕ) × (get_elem? (short_words letters) k ≡ some word)
  pub once : (j k : ℕ) (word : List ℕ) → get_elem? (short_words letters) j ≡ some word → get_elem? (short_words letters) k ≡ some word → j ≡ k
  pub no_other : (k : ℕ) (word : List ℕ) → get_elem? (short_words letters) k ≡ some word → is_short_word letters word ≡ true
  pub ascends : (j k : ℕ) (u v : List ℕ) → j < k → get_elem? (short_words letters) j ≡ some u → get_elem? (short_words letters) k ≡ some v → Earlier u v
  pub counted : length (short_words letters) ≡ word_count (alphabet_size letters)

abbrev pub EveryShortWord : Type 0
EveryShortWord = (letters : List ℕ) → ListsAll letters

-- ---- a word that is answered

-- next_word does not refuse it
abbrev pub NextIsTaken : Type 0
NextIsTaken = (letters word next : List ℕ) → is_short_word letters word ≡ true → next_short_word letters word ≡ some next → is_short_word letters next ≡ true

-- and its four places hold it
abbrev pub HoldsWord : Type 0
HoldsWord = (word : List ℕ) → length word ≤ 4 → held_word (short_word word) ≡ word
