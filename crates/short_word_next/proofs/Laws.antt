-- The next word by its places: which word is refused, the place that is advanced, and each letter. Assumes nothing.
use mathlib.Core.Path.{◌≡◌, refl, sym, ap, ap₂, ◌∙◌}
use mathlib.Core.Bool.{Bool, true, false, cond, not}
use mathlib.Core.List.{List, [], ◌∷◌, ◌++◌}
use mathlib.Core.Option.{Option, none, some}
use Prim.Native.Nat.{ℕ, zero, suc, ◌+◌, ◌-◌, ◌<◌, ◌≤◌}
use native.Mathlib.Numerals.{add-one}
use native.Mathlib.Omega.{arith}
use lib.Dec.{leb}
use lib.ListN.{length, get_or, take, drop, replicate, length-drop, length-replicate, get_or-replicate, get_or-append, get_or-eq_default, length-append}
use lib.Seq.{drop-cons, drop-length, get_or-take, get_or_at, get_or-append-add, length-take-le}
use borrow.Author.Tests.{leb-true, le-leb, lt-leb, lt-ltb, le-ltb}
use Rattle.lang.specs.Every.{both}
use Rattle.lang.specs.Checks.{unless, or_else}
use Rattle.lang.proofs.Every.{both_false}
use Rattle.letter_set.specs.LetterSets.{letter_in, letter_from, letter_found}
use Rattle.std.specs.Prelude.{Some, None}
use Rattle.short_words.specs.ShortWords.{all_in_set}
use Rattle.short_words.specs.NextWords.{advanced_to, kept_before, next_as_long, or_longer, next_by_least, next_short_word, short_refusal}
use Rattle.short_words.specs.NextWords.{no_word, next_found, next_word_by, next_word_of}
use Rattle.short_words.specs.declared.NextAnswer.TheVariants.{Word, End, Refused}
use Rattle.short_words.proofs.Products.{letters_cons, letters_nil}
use Rattle.short_words.proofs.Listing.{long_nil, long_cons}
use Rattle.short_word_next.specs.Placing.{letters_with}

-- ---- a word that is refused

passes : (t : Bool) → not t ≡ false → t ≡ true
passes true e = refl
passes false e = absurd (let z : ◌≡◌ {A = ℕ} 0 1 = cc in omega arith)

fails : (t : Bool) → not t ≡ true → t ≡ false
fails true e = absurd (let z : ◌≡◌ {A = ℕ} 0 1 = cc in omega arith)
fails false e = refl

module _ (letters word : List ℕ) where
  pub too_long : 4 < length word → 27 ≡ short_refusal letters word
  too_long l = ap (λ (t : Bool). unless 27 (both t (all_in_set letters word))) (sym (lt-leb (length word) 4 l))

  -- place i is of the set: what is left to test
  pub member_on : (i : ℕ) {t : Bool} → i < length word → t ≡ letter_in letters (get_or word i 0) → not t ≡ false →
      all_in_set letters (drop i word) ≡ all_in_set letters word → all_in_set letters (drop (i + 1) word) ≡ all_in_set letters word
  member_on i {t} l e q h =
      ap (λ (k : ℕ). all_in_set letters (drop k word)) (add-one i)
      ∙ sym (ap (λ (u : Bool). both u (all_in_set letters (drop (suc i) word))) (sym e ∙ passes t q))
      ∙ sym (letters_cons letters (get_or word i 0) (drop (suc i) word))
      ∙ ap (all_in_set letters) (sym (drop-cons word i 0 l))
      ∙ h

  -- it is not
  pub outside_set : (i : ℕ) {t : Bool} → i < length word → t ≡ letter_in letters (get_or word i 0) → not t ≡ true →
      all_in_set letters (drop i word) ≡ all_in_set letters word → 27 ≡ short_refusal letters word
  outside_set i {t} l e q h =
      let out : all_in_set letters word ≡ false =
      sym h ∙ ap (all_in_set letters) (drop-cons word i 0 l) ∙ letters_cons letters (get_or word i 0) (drop (suc i) word)
      ∙ ap (λ (u : Bool). both u (all_in_set letters (drop (suc i) word))) (sym e ∙ fails t q) in
      sym (ap (unless 27) (ap (both (leb (length word) 4)) out ∙ both_false (leb (length word) 4)))

  pub all_members : (i : ℕ) → length word ≤ i → i ≤ length word → length word ≤ 4 → all_in_set letters (drop i word) ≡ all_in_set letters word →
      0 ≡ short_refusal letters word
  all_members i g l f h =
      let k : i ≡ length word = omega arith in
      let e : all_in_set letters word ≡ true =
      sym h ∙ ap (λ (j : ℕ). all_in_set letters (drop j word)) k ∙ ap (all_in_set letters) (drop-length word) ∙ letters_nil letters in
      sym (ap (unless 27) (ap₂ both (le-leb (length word) 4 f) e))

-- ---- the letters

module _ (word : List ℕ) (kept c least n j : ℕ) (l : kept ≤ length word) where
  front : length (take kept word) ≡ kept
  front = length-take-le kept word l

  pub letter_kept : j < kept → get_or word j 0 ≡ get_or (letters_with word kept c least n) j 0
  letter_kept h =
      sym (get_or-append (take kept word) (c ∷ replicate (n - suc kept) least) 0 j (omega (arith, front)) ∙ get_or-take kept word j 0 h)

  pub letter_there : j ≡ kept → c ≡ get_or (letters_with word kept c least n) j 0
  letter_there e = sym (get_or_at (take kept word) c (replicate (n - suc kept) least) 0 j (front ∙ sym e))

  after_it : kept < j → get_or (letters_with word kept c least n) j 0 ≡ get_or (replicate (n - suc kept) least) (j - suc kept) 0
  after_it h =
      let k : j ≡ length (take kept word) + suc (j - suc kept) = omega (arith, front) in
      ap (λ (i : ℕ). get_or (letters_with word kept c least n) i 0) k
      ∙ get_or-append-add (take kept word) (c ∷ replicate (n - suc kept) least) (suc (j - suc kept)) 0

  pub letter_least : kept < j → j < n → least ≡ get_or (letters_with word kept c least n) j 0
  letter_least h g = sym (after_it h ∙ get_or-replicate (n - suc kept) (j - suc kept) least 0 (omega arith))

  pub letter_past : kept < j → n ≤ j → 0 ≡ get_or (letters_with word kept c least n) j 0
  letter_past h g =
      sym (after_it h ∙ get_or-eq_default (replicate (n - suc kept) least) 0 (omega (arith, length-replicate (n - suc kept) least)))

pub with_length_lem : (word : List ℕ) (kept c least n : ℕ) → kept ≤ length word → kept < n → n ≡ length (letters_with word kept c least n)
with_length_lem word kept c least n l h =
    omega (
      arith,
      length-append (take kept word) (c ∷ replicate (n - suc kept) least),
      length-take-le kept word l,
      length-replicate (n - suc kept) least,
    )

-- the word as it is answered
pub word_is : (w : List ℕ) (n a b c d : ℕ) → n ≡ length w → a ≡ get_or w 0 0 → b ≡ get_or w 1 0 → c ≡ get_or w 2 0 → d ≡ get_or w 3 0 →
    record { answer = Word; word = record { length = n; letters = a ∷ b ∷ c ∷ d ∷ [] } } ≡ next_found (some w)
word_is w n a b c d e f g h i = cc

-- ---- a letter that was found

at_is : (o : Option ℕ) (c : ℕ) → Some c ≡ letter_found o → o ≡ some c
at_is none c e = absurd (let z : ◌≡◌ {A = ℕ} 0 1 = cc in omega arith)
at_is (some d) c e = let q : c ≡ d = cc in ap some (sym q)

nothing_is : (o : Option ℕ) → None ≡ letter_found o → o ≡ none
nothing_is none e = refl
nothing_is (some d) e = absurd (let z : ◌≡◌ {A = ℕ} 0 1 = cc in omega arith)

-- ---- the place that is advanced

module _ (letters : List ℕ) (least : ℕ) where
  -- what is advanced from a place on, with the letters before it
  pub from_place : (word : List ℕ) (i : ℕ) (v : List ℕ) → i ≤ length word → next_as_long letters least (drop i word) ≡ some v →
      next_as_long letters least word ≡ some (take i word ++ v)
  from_place word zero v l e = e
  from_place [] (suc i) v l e = absurd (omega arith)
  from_place (c ∷ cs) (suc i) v l e =
      long_cons letters least c cs
      ∙ ap (λ (o : Option (List ℕ)). kept_before c o (advanced_to (letter_from letters (suc c)) (length cs) least)) (from_place cs i v (omega arith) e)

  module _ (word : List ℕ) (i : ℕ) (l : i < length word) (none_after : next_as_long letters least (drop (suc i) word) ≡ none) where
    own : next_as_long letters least (drop i word) ≡ advanced_to (letter_from letters (suc (get_or word i 0))) (length word - suc i) least
    own =
        ap (next_as_long letters least) (drop-cons word i 0 l)
        ∙ long_cons letters least (get_or word i 0) (drop (suc i) word)
        ∙ ap (λ (o : Option (List ℕ)). kept_before (get_or word i 0) o (advanced_to (letter_from letters (suc (get_or word i 0))) (length (drop (suc i) word)) least))
        none_after
        ∙ ap (λ (k : ℕ). advanced_to (letter_from letters (suc (get_or word i 0))) k least) (length-drop (suc i) word)

    -- it has a greater letter
    pub advanced : (c : ℕ) → Some c ≡ letter_found (letter_from letters (suc (get_or word i 0))) →
        next_found (some (letters_with word i c least (length word))) ≡ next_found (or_longer (next_as_long letters least word) (length word) least)
    advanced c e =
        let q = own ∙ ap (λ (o : Option ℕ). advanced_to o (length word - suc i) least) (at_is (letter_from letters (suc (get_or word i 0))) c e) in
        sym (ap (λ (o : Option (List ℕ)). next_found (or_longer o (length word) least))
        (from_place word i (c ∷ replicate (length word - suc i) least) (omega arith) q))

    -- it has none
    pub passed : None ≡ letter_found (letter_from letters (suc (get_or word i 0))) → next_as_long letters least (drop i word) ≡ none
    passed e = own ∙ ap (λ (o : Option ℕ). advanced_to o (length word - suc i) least) (nothing_is (letter_from letters (suc (get_or word i 0))) e)

  pub none_yet : (word : List ℕ) → next_as_long letters least (drop (length word) word) ≡ none
  none_yet word = ap (next_as_long letters least) (drop-length word) ∙ long_nil letters least

  module _ (word : List ℕ) (none_at_all : next_as_long letters least word ≡ none) where
    pub at_end_lem : length word ≡ 4 → next_found none ≡ next_found (or_longer (next_as_long letters least word) (length word) least)
    at_end_lem e =
        sym
        (ap (λ (o : Option (List ℕ)). next_found (or_longer o (length word) least)) none_at_all
        ∙ ap (λ (t : Bool). next_found (cond t (some (replicate (suc (length word)) least)) none)) (le-ltb (length word) 4 (omega arith)))

    pub one_longer : length word < 4 →
        next_found (some (letters_with word 0 least least (length word + 1))) ≡ next_found (or_longer (next_as_long letters least word) (length word) least)
    one_longer l =
        let k : length word + 1 - 1 ≡ length word = omega arith in
        ap (λ (i : ℕ). next_found (some (least ∷ replicate i least))) k
        ∙ sym
        (ap (λ (o : Option (List ℕ)). next_found (or_longer o (length word) least)) none_at_all
        ∙ ap (λ (t : Bool). next_found (cond t (some (replicate (suc (length word)) least)) none)) (lt-ltb (length word) 4 l))

-- ---- the whole

by_refusal : (letters word : List ℕ) (r : ℕ) → r ≡ short_refusal letters word → next_word_by r (next_short_word letters word) ≡ next_word_of letters word
by_refusal letters word r e = ap (λ (k : ℕ). next_word_by k (next_short_word letters word)) e

pub refused_is : (letters word : List ℕ) (r : ℕ) → r ≡ short_refusal letters word → (r ≡ 0 → ⊥) → no_word (Refused r) ≡ next_word_of letters word
refused_is letters word zero e h = absurd (h refl)
refused_is letters word (suc r) e h = by_refusal letters word (suc r) e

short_by : (letters word : List ℕ) (t : Bool) → leb (length word) 4 ≡ t → 0 ≡ unless 27 (both t (all_in_set letters word)) → length word ≤ 4
short_by letters word true e h = leb-true (length word) 4 e
short_by letters word false e h = absurd (omega arith)

module _ (letters word : List ℕ) (r : ℕ) (e : r ≡ short_refusal letters word) (taken : r ≡ 0) where
  pub taken_short : length word ≤ 4
  taken_short = short_by letters word (leb (length word) 4) refl (sym taken ∙ e)

  taken_is : (o : Option ℕ) → letter_from letters 0 ≡ o → next_found (next_by_least o letters word) ≡ next_word_of letters word
  taken_is o q =
      ap (λ (p : Option ℕ). next_found (next_by_least p letters word)) (sym q)
      ∙ by_refusal letters word 0 (sym taken ∙ e)

  -- a set without letters
  pub no_letter_is : None ≡ letter_found (letter_from letters 0) → no_word End ≡ next_word_of letters word
  no_letter_is f = taken_is none (nothing_is (letter_from letters 0) f)

  pub letter_is : (least : ℕ) → Some least ≡ letter_found (letter_from letters 0) →
      next_found (or_longer (next_as_long letters least word) (length word) least) ≡ next_word_of letters word
  letter_is least f = taken_is (some least) (at_is (letter_from letters 0) least f)

-- ---- the boundary character first

pub edge_refused : (e s r : ℕ) (o : Option (List ℕ)) → r ≡ e → (r ≡ 0 → ⊥) → no_word (Refused r) ≡ next_word_by (or_else e s) o
edge_refused e s zero o q h = absurd (h refl)
edge_refused e s (suc r) o q h = ap (λ (m : ℕ). next_word_by (or_else m s) o) q

pub edge_taken : (e s r : ℕ) (o : Option (List ℕ)) → r ≡ e → r ≡ 0 → next_word_by s o ≡ next_word_by (or_else e s) o
edge_taken e s r o q h = ap (λ (m : ℕ). next_word_by (or_else m s) o) (sym h ∙ q)
