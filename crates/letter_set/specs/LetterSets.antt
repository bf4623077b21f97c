-- A set of characters as 256 bits, in four numbers of 64 (R431): which characters are in it, how many (R432), how many words of at most four
-- letters it has (R434), and the least letter from a character on (R433). The contracts of crate letter_set.
use Rattle.std.specs.Prelude.{Bool, cond, List, ℕ, zero, suc, ◌+◌, ◌-◌, ◌*◌, ltb, eqb}
use Rattle.std.specs.Prelude as rust
use Rattle.std.proofs.Math.Option.{Option, none, some}
use Rattle.lang.specs.Every.{both}
use Rattle.compile_survey.specs.Bits.{bit_at}
use Rattle.index.specs.Index.{how_many}

-- character c is in the set: bit c % 64 of number c / 64, bit 0 the lowest; above 255 none is (R431)
abbrev pub letter_in : List ℕ → ℕ → Bool
letter_in letters c = both (ltb c 256) (eqb (bit_at letters c) 1)

-- how many characters are in it (R432)
abbrev pub alphabet_size : List ℕ → ℕ
alphabet_size letters = how_many 256 (letter_in letters)

-- how many words of at most four letters there are over n letters (R434)
abbrev pub word_count : ℕ → ℕ
word_count n = 1 + n + n * n + n * n * n + n * n * n * n

-- the least of the n numbers from c on that passes a test
unfoldable pub least_from : ℕ → ℕ → (ℕ → Bool) → Option ℕ
least_from zero c p = none
least_from (suc n) c p = cond (p c) (some c) (least_from n (suc c) p)

-- the least letter not below c (R433)
abbrev pub letter_from : List ℕ → ℕ → Option ℕ
letter_from letters c = least_from (256 - c) c (letter_in letters)

-- as it is answered
abbrev pub letter_found : Option ℕ → rust.Option ℕ
letter_found none = rust.None
letter_found (some c) = rust.Some c
