-- Every word of at most four letters of a set of characters (R435), shorter first and then by codes, first letter first: products of the
-- ascending letters.
use Rattle.std.specs.Prelude.{◌≡◌, Bool, true, cond, List, [], ◌∷◌, ◌++◌, map, ◌⊎◌, ℕ, zero, suc, ◌<◌, leb, length}
use Rattle.lang.specs.Every.{both}
use Rattle.letter_set.specs.LetterSets.{letter_in}

-- those of the n numbers from c on that pass a test, ascending
unfoldable pub passing_from : ℕ → ℕ → (ℕ → Bool) → List ℕ
passing_from zero c p = []
passing_from (suc n) c p = cond (p c) (c ∷ passing_from n (suc c) p) (passing_from n (suc c) p)

-- the letters of a set, ascending
abbrev pub alphabet : List ℕ → List ℕ
alphabet letters = passing_from 256 0 (letter_in letters)

-- each of some letters before each of some words, the letters in their order first
unfoldable pub each_before : List ℕ → List (List ℕ) → List (List ℕ)
each_before [] words = []
each_before (c ∷ cs) words = map (λ w. c ∷ w) words ++ each_before cs words

-- every word of n of these letters
unfoldable pub words_of_length : List ℕ → ℕ → List (List ℕ)
words_of_length cs zero = [] ∷ []
words_of_length cs (suc n) = each_before cs (words_of_length cs n)

-- every word of k lengths from n on
unfoldable pub words_from : List ℕ → ℕ → ℕ → List (List ℕ)
words_from cs zero n = []
words_from cs (suc k) n = words_of_length cs n ++ words_from cs k (suc n)

-- every word of 0 to 4 letters of a set
abbrev pub short_words : List ℕ → List (List ℕ)
short_words letters = words_from (alphabet letters) 5 0

-- ---- a word over a set, and the order

-- every letter of a word is in the set
unfoldable pub all_in_set : List ℕ → List ℕ → Bool
all_in_set letters [] = true
all_in_set letters (c ∷ cs) = both (letter_in letters c) (all_in_set letters cs)

-- at most four letters, each in the set
abbrev pub is_short_word : List ℕ → List ℕ → Bool
is_short_word letters word = both (leb (length word) 4) (all_in_set letters word)

-- of two words as long as each other: the first is less at the first letter that differs
unfoldable pub CodesBelow : List ℕ → List ℕ → Type 0
CodesBelow [] v = ⊥
CodesBelow (a ∷ u) [] = ⊥
CodesBelow (a ∷ u) (b ∷ v) = (a < b) ⊎ ((a ≡ b) × CodesBelow u v)

-- one word comes before another: it is shorter, or as long and below it by codes
abbrev pub Earlier : List ℕ → List ℕ → Type 0
Earlier u v = (length u < length v) ⊎ ((length u ≡ length v) × CodesBelow u v)
