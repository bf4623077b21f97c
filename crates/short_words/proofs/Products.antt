-- Letters before words: the first, how many, and which. Assumes nothing.
use mathlib.Core.Path.{◌≡◌, refl, sym, ap, ap₂, ◌∙◌}
use mathlib.Core.Bool.{true}
use mathlib.Core.List.{List, [], ◌∷◌, ◌++◌, map}
use mathlib.Core.Option.{Option, none, some}
use Prim.Native.Nat.{ℕ, zero, suc, ◌+◌, ◌*◌, ◌^◌}
use native.Mathlib.Nat.{zero-mul, suc-mul, add_comm}
use native.Mathlib.Omega.{arith}
use lib.ListN.{length, length-append, length-map, get_elem?}
use Rattle.lang.specs.Every.{both}
use Rattle.letter_set.specs.LetterSets.{letter_in}
use Rattle.short_words.specs.ShortWords.{each_before, words_of_length, all_in_set}
use Rattle.short_words.proofs.Chains.{first_or, Each, no_one, one_more, each_append, each_map, at_left, at_right, at_map}

pub before_nil : (words : List (List ℕ)) → each_before [] words ≡ []
unfolding each_before
before_nil words = refl

pub before_cons : (c : ℕ) (cs : List ℕ) (words : List (List ℕ)) → each_before (c ∷ cs) words ≡ map (λ w. c ∷ w) words ++ each_before cs words
unfolding each_before
before_cons c cs words = refl

pub first_before : (cs : List ℕ) (words : List (List ℕ)) (c : ℕ) (w : List ℕ) → first_or cs none ≡ some c → first_or words none ≡ some w →
    first_or (each_before cs words) none ≡ some (c ∷ w)
first_before [] words c w e f = absurd (let z : ◌≡◌ {A = ℕ} 0 1 = cc in omega arith)
first_before (d ∷ cs) [] c w e f = absurd (let z : ◌≡◌ {A = ℕ} 0 1 = cc in omega arith)
first_before (d ∷ cs) (v ∷ words) c w e f = rw (before_cons d cs (v ∷ words)) (let q : d ≡ c = cc in let r : v ≡ w = cc in ap₂ (λ (x : ℕ) (y : List ℕ). some (x ∷ y)) q r)

pub before_length : (cs : List ℕ) (words : List (List ℕ)) → length (each_before cs words) ≡ length cs * length words
before_length [] words = rw (before_nil words) (sym (zero-mul (length words)))
before_length (c ∷ cs) words =
    ap length (before_cons c cs words)
    ∙ length-append (map (λ w. c ∷ w) words) (each_before cs words)
    ∙ ap₂ (λ (a b : ℕ). a + b) (length-map words (λ w. c ∷ w)) (before_length cs words)
    ∙ add_comm (length words) (length cs * length words)
    ∙ sym (suc-mul (length cs) (length words))

pub before_at : (cs : List ℕ) (words : List (List ℕ)) (j k c : ℕ) (w : List ℕ) → get_elem? cs j ≡ some c → get_elem? words k ≡ some w →
    (m : ℕ) × (get_elem? (each_before cs words) m ≡ some (c ∷ w))
before_at [] words j k c w e f = absurd (let z : ◌≡◌ {A = ℕ} 0 1 = cc in omega arith)
before_at (d ∷ cs) words zero k c w e f =
    let q : d ≡ c = cc in (
      k,
      ap (λ (l : List (List ℕ)). get_elem? l k) (before_cons d cs words)
          ∙ at_left (map (λ w. d ∷ w) words) (each_before cs words) k (d ∷ w) (at_map (λ w. d ∷ w) words k w f)
          ∙ ap (λ (x : ℕ). some (x ∷ w)) q,
    )
before_at (d ∷ cs) words (suc j) k c w e f =
    let r = before_at cs words j k c w e f in
    let m = at_right (map (λ w. d ∷ w) words) (each_before cs words) r.0 in
    (m.0, ap (λ (l : List (List ℕ)). get_elem? l m.0) (before_cons d cs words) ∙ m.1 ∙ r.1)

module _ (P : ℕ → Type 0) (Q R : List ℕ → Type 0) (h : (c : ℕ) (w : List ℕ) → P c → Q w → R (c ∷ w)) where
  pub before_each : (cs : List ℕ) (words : List (List ℕ)) → Each P cs → Each Q words → Each R (each_before cs words)
  before_each [] words no_one f = rw (before_nil words) no_one
  before_each (c ∷ cs) words (one_more p ps) f =
      rw (before_cons c cs words)
      (each_append (map (λ w. c ∷ w) words) (each_before cs words) (each_map (λ w. c ∷ w) words (λ w. h c w p) f) (before_each cs words ps f))

-- ---- the words of n letters

pub words_zero : (cs : List ℕ) → words_of_length cs 0 ≡ [] ∷ []
unfolding words_of_length
words_zero cs = refl

pub words_suc : (cs : List ℕ) (n : ℕ) → words_of_length cs (suc n) ≡ each_before cs (words_of_length cs n)
unfolding words_of_length
words_suc cs n = refl

pub letters_cons : (letters : List ℕ) (c : ℕ) (cs : List ℕ) → all_in_set letters (c ∷ cs) ≡ both (letter_in letters c) (all_in_set letters cs)
unfolding all_in_set
letters_cons letters c cs = refl

pub letters_nil : (letters : List ℕ) → all_in_set letters [] ≡ true
unfolding all_in_set
letters_nil letters = refl

-- n letters, each of the set
pub record Sized (letters : List ℕ) (n : ℕ) (word : List ℕ) : Type 0 where
  pub long : length word ≡ n
  pub within : all_in_set letters word ≡ true

module _ (letters cs : List ℕ) (each : Each (λ c. letter_in letters c ≡ true) cs) where
  sized_more : (n c : ℕ) (w : List ℕ) → letter_in letters c ≡ true → Sized letters n w → Sized letters (suc n) (c ∷ w)
  sized_more n c w e s = record { long = ap suc s.long; within = letters_cons letters c w ∙ ap₂ both e s.within }

  pub words_sized : (n : ℕ) → Each (Sized letters n) (words_of_length cs n)
  words_sized zero = rw (words_zero cs) (one_more (record { long = refl; within = letters_nil letters }) no_one)
  words_sized (suc n) =
      rw (words_suc cs n)
      (before_each (λ c. letter_in letters c ≡ true) (Sized letters n) (Sized letters (suc n)) (sized_more n) cs (words_of_length cs n) each (words_sized n))
