-- What specs/Purpose states. Assumes nothing.
use mathlib.Core.Path.{◌≡◌, refl, sym, ap, ap₂, ◌∙◌}
use mathlib.Core.Bool.{Bool, true}
use mathlib.Core.List.{List, [], ◌∷◌, ◌++◌}
use mathlib.Core.Logic.{◌⊎◌, inl, inr}
use mathlib.Core.Option.{Option, none, some}
use Prim.Native.Nat.{ℕ, zero, suc, ◌+◌, ◌*◌, ◌<◌, ◌≤◌}
use native.Mathlib.Nat.{mul-one, mul_assoc, eq-or-lt_of_le}
use native.Mathlib.Omega.{arith}
use lib.Dec.{ltb, leb}
use lib.ListN.{length, length-append, get_elem?}
use borrow.Author.Tests.{ltb-true, leb-true, le-leb}
use Rattle.words.proofs.Tests.{less_or_not}
use Rattle.lang.specs.Every.{both}
use Rattle.lang.proofs.Every.{both_left, both_right}
use Rattle.letter_set.specs.LetterSets.{letter_in, alphabet_size, word_count}
use Rattle.short_words.specs.ShortWords.{alphabet, words_of_length, words_from, short_words, all_in_set, is_short_word, Earlier}
use Rattle.short_words.specs.NextWords.{next_short_word, short_word, held_word}
use Rattle.short_words.specs.Purpose.{ListsAll, EveryShortWord, NextIsTaken, HoldsWord}
use Rattle.short_words.proofs.Chains.{Each, no_one, each_append, each_weaker, each_at, next_at, at_left, at_right, rising}
use Rattle.short_words.proofs.Alphabets.{passing_each, passing_at, alphabet_length}
use Rattle.short_words.proofs.Products.{before_length, before_at, words_zero, words_suc, letters_cons, Sized, words_sized}
use Rattle.short_words.proofs.Listing.{from_zero, from_suc, short_follow, turns}
use Rattle.short_words.proofs.Orders.{earlier_join, not_earlier, next_rises}

module _ (letters : List ℕ) where
  abbrev cs : List ℕ
  cs = alphabet letters

  -- ---- each word is there

  below : (c : ℕ) → letter_in letters c ≡ true → c < 0 + 256
  below c e = let l : c < 256 = ltb-true c 256 (both_left (ltb c 256) _ e) in omega arith

  letter_at : (c : ℕ) → letter_in letters c ≡ true → (j : ℕ) × (get_elem? cs j ≡ some c)
  letter_at c e = passing_at (letter_in letters) 256 0 c e (omega arith) (below c e)

  word_at : (w : List ℕ) → all_in_set letters w ≡ true → (k : ℕ) × (get_elem? (words_of_length cs (length w)) k ≡ some w)
  word_at [] e = (0, ap (λ (l : List (List ℕ)). get_elem? l 0) (words_zero cs))
  word_at (c ∷ w) e =
      let q = sym (letters_cons letters c w) ∙ e in
      let j = letter_at c (both_left (letter_in letters c) (all_in_set letters w) q) in
      let k = word_at w (both_right (letter_in letters c) (all_in_set letters w) q) in
      let m = before_at cs (words_of_length cs (length w)) j.0 k.0 c w j.1 k.1 in
      (m.0, ap (λ (l : List (List ℕ)). get_elem? l m.0) (words_suc cs (length w)) ∙ m.1)

  among_by : (k n : ℕ) (w : List ℕ) → all_in_set letters w ≡ true → (n ≡ length w) ⊎ (n < length w) →
      (n < length w → (m : ℕ) × (get_elem? (words_from cs k (suc n)) m ≡ some w)) → (m : ℕ) × (get_elem? (words_from cs (suc k) n) m ≡ some w)
  among_by k n w e (inl s) h =
      let r = word_at w e in (
        r.0,
        ap (λ (l : List (List ℕ)). get_elem? l r.0) (from_suc cs k n)
            ∙ at_left (words_of_length cs n) (words_from cs k (suc n)) r.0 w (ap (λ (i : ℕ). get_elem? (words_of_length cs i) r.0) s ∙ r.1),
      )
  among_by k n w e (inr s) h =
      let r = h s in
      let m = at_right (words_of_length cs n) (words_from cs k (suc n)) r.0 in
      (m.0, ap (λ (l : List (List ℕ)). get_elem? l m.0) (from_suc cs k n) ∙ m.1 ∙ r.1)

  among : (k n : ℕ) (w : List ℕ) → all_in_set letters w ≡ true → n ≤ length w → length w < n + k → (m : ℕ) × (get_elem? (words_from cs k n) m ≡ some w)
  among zero n w e l g = absurd (omega arith)
  among (suc k) n w e l g = among_by k n w e (eq-or-lt_of_le l) (λ s. among k (suc n) w e s (omega arith))

  each_word : (word : List ℕ) → is_short_word letters word ≡ true → (k : ℕ) × (get_elem? (short_words letters) k ≡ some word)
  each_word word e =
      let l : length word ≤ 4 = leb-true (length word) 4 (both_left (leb (length word) 4) (all_in_set letters word) e) in
      among 5 0 word (both_right (leb (length word) 4) (all_in_set letters word) e) (omega arith) (omega arith)

  -- ---- and no other

  sized_short : (n : ℕ) → n ≤ 4 → (w : List ℕ) → Sized letters n w → is_short_word letters w ≡ true
  sized_short n l w s = ap₂ both (le-leb (length w) 4 (omega (arith, s.long))) s.within

  all_short : (k n : ℕ) → k + n ≡ 5 → Each (λ w. is_short_word letters w ≡ true) (words_from cs k n)
  all_short zero n e = rw (from_zero cs n) no_one
  all_short (suc k) n e =
      rw (from_suc cs k n)
      (each_append (words_of_length cs n) (words_from cs k (suc n))
      (each_weaker (words_of_length cs n) (sized_short n (omega arith)) (words_sized letters cs (passing_each (letter_in letters) 256 0) n))
      (all_short k (suc n) (omega arith)))

  none_other : (k : ℕ) (word : List ℕ) → get_elem? (short_words letters) k ≡ some word → is_short_word letters word ≡ true
  none_other k word e = each_at (short_words letters) k word (all_short 5 0 refl) e

  -- ---- in order

  in_order : (j k : ℕ) (u v : List ℕ) → j < k → get_elem? (short_words letters) j ≡ some u → get_elem? (short_words letters) k ≡ some v → Earlier u v
  in_order j k u v l e f = rising Earlier (next_short_word letters) (next_rises letters) earlier_join (short_words letters) j k u v (short_follow letters) l e f

  once_by : (j k : ℕ) (w : List ℕ) → get_elem? (short_words letters) j ≡ some w → get_elem? (short_words letters) k ≡ some w → (j < k) ⊎ (k ≤ j) →
      (k < j) ⊎ (j ≤ k) → j ≡ k
  once_by j k w e f (inl l) g = absurd (not_earlier w (in_order j k w w l e f))
  once_by j k w e f (inr l) (inl g) = absurd (not_earlier w (in_order k j w w g f e))
  once_by j k w e f (inr l) (inr g) = omega arith

  -- ---- how many

  abbrev size : ℕ
  size = length cs

  length_suc : (n m : ℕ) → length (words_of_length cs n) ≡ m → length (words_of_length cs (suc n)) ≡ size * m
  length_suc n m e = ap length (words_suc cs n) ∙ before_length cs (words_of_length cs n) ∙ ap (λ (i : ℕ). size * i) e

  length_from : (k n m rest : ℕ) → length (words_of_length cs n) ≡ m → length (words_from cs k (suc n)) ≡ rest → length (words_from cs (suc k) n) ≡ m + rest
  length_from k n m rest e f = ap length (from_suc cs k n) ∙ length-append (words_of_length cs n) (words_from cs k (suc n)) ∙ ap₂ (λ (a b : ℕ). a + b) e f

  short_length : length (short_words letters) ≡ word_count size
  short_length =
      let l₀ : length (words_of_length cs 0) ≡ 1 = ap length (words_zero cs) in
      let l₁ : length (words_of_length cs 1) ≡ size = length_suc 0 1 l₀ ∙ mul-one size in
      let l₂ : length (words_of_length cs 2) ≡ size * size = length_suc 1 size l₁ in
      let l₃ : length (words_of_length cs 3) ≡ size * size * size = length_suc 2 (size * size) l₂ ∙ sym (mul_assoc size size size) in
      let l₄ : length (words_of_length cs 4) ≡ size * size * size * size =
      length_suc 3 (size * size * size) l₃ ∙ sym (mul_assoc size (size * size) size) ∙ ap (λ (i : ℕ). i * size) (sym (mul_assoc size size size)) in
      let z : length (words_from cs 0 5) ≡ 0 = ap length (from_zero cs 5) in
      length_from 4 0 1 _ l₀ (length_from 3 1 size _ l₁ (length_from 2 2 (size * size) _ l₂ (length_from 1 3 (size * size * size) _ l₃
      (length_from 0 4 (size * size * size * size) 0 l₄ z))))
      ∙ sums size (size * size) (size * size * size) (size * size * size * size)
    where
      sums : (a b c d : ℕ) → 1 + (a + (b + (c + (d + 0)))) ≡ 1 + a + b + c + d
      sums a b c d = omega arith

pub every_short_word : EveryShortWord
every_short_word letters =
    record {
      listed = turns letters;
      each = each_word letters;
      once = λ j k w e f. once_by letters j k w e f (less_or_not j k) (less_or_not k j);
      no_other = none_other letters;
      ascends = in_order letters;
      counted = short_length letters ∙ ap word_count (alphabet_length letters);
    }

pub next_is_taken : NextIsTaken
next_is_taken letters word next e f =
    let r = each_word letters word e in
    none_other letters (suc r.0) next (sym (next_at (short_words letters) r.0 word (short_follow letters) r.1) ∙ f)

pub holds_word : HoldsWord
holds_word [] l = refl
holds_word (a ∷ []) l = refl
holds_word (a ∷ b ∷ []) l = refl
holds_word (a ∷ b ∷ c ∷ []) l = refl
holds_word (a ∷ b ∷ c ∷ d ∷ []) l = refl
holds_word (a ∷ b ∷ c ∷ d ∷ e ∷ w) l = absurd (omega arith)
