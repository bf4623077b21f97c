-- The short words of a set follow each other, by the next word. Assumes nothing.
use mathlib.Core.Path.{◌≡◌, refl, sym, ap, ap₂, ◌∙◌}
use mathlib.Core.Bool.{Bool, true, cond}
use mathlib.Core.List.{List, [], ◌∷◌, ◌++◌, map}
use mathlib.Core.Option.{Option, none, some}
use Prim.Native.Nat.{ℕ, zero, suc, ◌+◌, ◌<◌}
use native.Mathlib.Omega.{arith}
use lib.Dec.{ltb}
use lib.ListN.{length, replicate, get_elem?}
use borrow.Author.Tests.{lt-ltb, le-ltb}
use Rattle.letter_set.specs.LetterSets.{letter_in, letter_from}
use Rattle.short_words.specs.ShortWords.{alphabet, each_before, words_of_length, words_from, short_words}
use Rattle.short_words.specs.NextWords.{advanced_to, kept_before, next_as_long, or_longer, next_by_least, next_short_word}
use Rattle.short_words.specs.Purpose.{then_next, word_after_turns}
use Rattle.short_words.proofs.Chains.{first_or, Each, Follows, done, then, first_append, follows_append, follows_map, follows_by, next_at, none_after}
use Rattle.short_words.proofs.Alphabets.{passing_each, alphabet_first, alphabet_follows}
use Rattle.short_words.proofs.Products.{before_cons, before_nil, first_before, words_zero, words_suc, Sized, words_sized}

pub long_nil : (letters : List ℕ) (least : ℕ) → next_as_long letters least [] ≡ none
unfolding next_as_long
long_nil letters least = refl

pub long_cons : (letters : List ℕ) (least c : ℕ) (cs : List ℕ) →
    next_as_long letters least (c ∷ cs) ≡ kept_before c (next_as_long letters least cs) (advanced_to (letter_from letters (suc c)) (length cs) least)
unfolding next_as_long
long_cons letters least c cs = refl

pub from_zero : (cs : List ℕ) (n : ℕ) → words_from cs 0 n ≡ []
unfolding words_from
from_zero cs n = refl

pub from_suc : (cs : List ℕ) (k n : ℕ) → words_from cs (suc k) n ≡ words_of_length cs n ++ words_from cs k (suc n)
unfolding words_from
from_suc cs k n = refl

-- ---- of one length

module _ (letters : List ℕ) (least : ℕ) where
  -- what a letter is advanced to is the first word of those after it
  advanced_first : (cs : List ℕ) (words : List (List ℕ)) (n : ℕ) → first_or words none ≡ some (replicate n least) →
      advanced_to (first_or cs none) n least ≡ first_or (each_before cs words) none
  advanced_first [] words n e = rw (before_nil words)
  advanced_first (d ∷ cs) words n e = sym (first_before (d ∷ cs) words d (replicate n least) refl e)

  before_follows : (cs : List ℕ) (words : List (List ℕ)) (n : ℕ) → first_or words none ≡ some (replicate n least) → Each (Sized letters n) words →
      Follows (next_as_long letters least) none words → Follows (λ c. letter_from letters (suc c)) none cs →
      Follows (next_as_long letters least) none (each_before cs words)
  before_follows [] words n e p f done = rw (before_nil words) done
  before_follows (c ∷ cs) words n e p f (then a g) =
      rw (before_cons c cs words)
      (follows_append (map (λ w. c ∷ w) words) (each_before cs words)
      (follows_map (Sized letters n) (next_as_long letters least) (next_as_long letters least) (first_or (each_before cs words) none) (λ w. c ∷ w) on ends words p f)
      (before_follows cs words n e p f g))
    where
      on : (x y : List ℕ) → Sized letters n x → next_as_long letters least x ≡ some y → next_as_long letters least (c ∷ x) ≡ some (c ∷ y)
      on x y s q =
          long_cons letters least c x
          ∙ ap (λ (o : Option (List ℕ)). kept_before c o (advanced_to (letter_from letters (suc c)) (length x) least)) q

      ends : (x : List ℕ) → Sized letters n x → next_as_long letters least x ≡ none → next_as_long letters least (c ∷ x) ≡ first_or (each_before cs words) none
      ends x s q =
          long_cons letters least c x
          ∙ ap (λ (o : Option (List ℕ)). kept_before c o (advanced_to (letter_from letters (suc c)) (length x) least)) q
          ∙ ap₂ (λ (o : Option ℕ) (m : ℕ). advanced_to o m least) a s.long
          ∙ advanced_first cs words n e

  module _ (first : letter_from letters 0 ≡ some least) where
    pub words_first : (n : ℕ) → first_or (words_of_length (alphabet letters) n) none ≡ some (replicate n least)
    words_first zero = rw (words_zero (alphabet letters))
    words_first (suc n) =
        ap (λ (l : List (List ℕ)). first_or l none) (words_suc (alphabet letters) n)
        ∙ first_before (alphabet letters) (words_of_length (alphabet letters) n) least (replicate n least) (alphabet_first letters ∙ first) (words_first n)

    pub words_each : (n : ℕ) → Each (Sized letters n) (words_of_length (alphabet letters) n)
    words_each n = words_sized letters (alphabet letters) (passing_each (letter_in letters) 256 0) n

    words-follow : (n : ℕ) → Follows (next_as_long letters least) none (words_of_length (alphabet letters) n)
    words-follow zero = rw (words_zero (alphabet letters)) (then (long_nil letters least) done)
    words-follow (suc n) =
        rw (words_suc (alphabet letters) n)
        (before_follows (alphabet letters) (words_of_length (alphabet letters) n) n (words_first n) (words_each n) (words-follow n) (alphabet_follows letters))

    -- ---- of all lengths

    next_is : (word : List ℕ) → next_short_word letters word ≡ or_longer (next_as_long letters least word) (length word) least
    next_is word = ap (λ (o : Option ℕ). next_by_least o letters word) first

    -- after the last word of n letters comes the first of those that are longer
    longer-first : (k n : ℕ) → k + n ≡ 4 → or_longer none n least ≡ first_or (words_from (alphabet letters) k (suc n)) none
    longer-first zero n e =
        ap (λ (t : Bool). cond t (some (replicate (suc n) least)) none) (le-ltb n 4 (omega arith))
        ∙ ap (λ (l : List (List ℕ)). first_or l none) (sym (from_zero (alphabet letters) (suc n)))
    longer-first (suc k) n e =
        ap (λ (t : Bool). cond t (some (replicate (suc n) least)) none) (lt-ltb n 4 (omega arith))
        ∙ sym
        (ap (λ (l : List (List ℕ)). first_or l none) (from_suc (alphabet letters) k (suc n))
        ∙ first_append (words_of_length (alphabet letters) (suc n)) (words_from (alphabet letters) k (suc (suc n))) none
        ∙ first_some (words_of_length (alphabet letters) (suc n)) (first_or (words_from (alphabet letters) k (suc (suc n))) none) (replicate (suc n) least)
        (words_first (suc n)))
      where
        first_some : (xs : List (List ℕ)) (o : Option (List ℕ)) (x : List ℕ) → first_or xs none ≡ some x → first_or xs o ≡ some x
        first_some [] o x q = absurd (let z : ◌≡◌ {A = ℕ} 0 1 = cc in omega arith)
        first_some (y ∷ xs) o x q = q

    all-follow : (k n : ℕ) → k + n ≡ 5 → Follows (next_short_word letters) none (words_from (alphabet letters) k n)
    all-follow zero n e = rw (from_zero (alphabet letters) n) done
    all-follow (suc k) n e =
        rw (from_suc (alphabet letters) k n)
        (follows_append (words_of_length (alphabet letters) n) (words_from (alphabet letters) k (suc n))
        (follows_by (Sized letters n) (next_as_long letters least) (next_short_word letters) (first_or (words_from (alphabet letters) k (suc n)) none) on ends
        (words_of_length (alphabet letters) n) (words_each n) (words-follow n))
        (all-follow k (suc n) (omega arith)))
      where
        on : (x y : List ℕ) → Sized letters n x → next_as_long letters least x ≡ some y → next_short_word letters x ≡ some y
        on x y s q = next_is x ∙ ap (λ (o : Option (List ℕ)). or_longer o (length x) least) q

        ends : (x : List ℕ) → Sized letters n x → next_as_long letters least x ≡ none →
            next_short_word letters x ≡ first_or (words_from (alphabet letters) k (suc n)) none
        ends x s q =
            next_is x ∙ ap₂ (λ (o : Option (List ℕ)) (m : ℕ). or_longer o m least) q s.long ∙ longer-first k n (omega arith)

-- ---- with and without letters

no_letters : (cs : List ℕ) → first_or cs none ≡ none → cs ≡ []
no_letters [] e = refl
no_letters (c ∷ cs) e = absurd (let z : ◌≡◌ {A = ℕ} 0 1 = cc in omega arith)

only_empty : words_from [] 5 0 ≡ [] ∷ []
unfolding words_from words_of_length each_before
only_empty = refl

short_by : (letters : List ℕ) (o : Option ℕ) → letter_from letters 0 ≡ o → Follows (next_short_word letters) none (short_words letters)
short_by letters none e =
    let cs : alphabet letters ≡ [] = no_letters (alphabet letters) (alphabet_first letters ∙ e) in
    rw (ap (λ (l : List ℕ). words_from l 5 0) cs ∙ only_empty) (then (ap (λ (o : Option ℕ). next_by_least o letters []) e) done)
short_by letters (some least) e = all-follow letters least e 5 0 refl

pub short_follow : (letters : List ℕ) → Follows (next_short_word letters) none (short_words letters)
short_follow letters = short_by letters (letter_from letters 0) refl

-- ---- the turns from the empty word

turn_by : (letters : List ℕ) (k : ℕ) (o : Option (List ℕ)) → get_elem? (short_words letters) k ≡ o →
    then_next (next_short_word letters) o ≡ get_elem? (short_words letters) (suc k)
turn_by letters k none e = sym (none_after (short_words letters) k e)
turn_by letters k (some w) e = next_at (short_words letters) k w (short_follow letters) e

first_empty : (letters : List ℕ) → some [] ≡ get_elem? (short_words letters) 0
unfolding words_from words_of_length
first_empty letters = refl

pub turns : (letters : List ℕ) (k : ℕ) → word_after_turns letters k ≡ get_elem? (short_words letters) k
unfolding word_after_turns
turns letters zero = first_empty letters
turns letters (suc k) = ap (then_next (next_short_word letters)) (turns letters k) ∙ turn_by letters k (get_elem? (short_words letters) k) refl
