-- Two digits as one number of two bytes, and a number spelled at the end of 12 columns (R186).
use Rattle.std.specs.Prelude.{◌≡◌, cond, List, ℕ, ◌+◌, ◌-◌, ◌*◌, ◌/◌, ◌%◌, ◌^◌, ◌<◌, ◌≤◌, ltb, leb, length}
use Rattle.std.proofs.lemmas.List.Edits.{sets}
use Rattle.words.specs.Words.{number_of}
use Rattle.columns.specs.Numbers.{spelled}

-- the two digits of a number below 100, the first in the lower byte; 0 for any other number
abbrev pub digit_pair : ℕ → ℕ
digit_pair n = cond (ltb n 100) (48 + n / 10 + 256 * (48 + n % 10)) 0

-- the size of the number whose 32 bits are w
pub record Sizes (w n : ℕ) : Type 0 where
  pub positive : (w < 2 ^ 31 → n ≡ w)
  pub negative : (2 ^ 31 ≤ w → n ≡ 4294967295 - w + 1)

-- the number whose 32 bits are w, spelled at the end of the 12 columns from a place on
abbrev pub spells : List ℕ → ℕ → ℕ → List ℕ
spells out at w = sets out (at + (12 - length (spelled (number_of w)))) (spelled (number_of w))

-- .. nothing where there is no room for them
abbrev pub spells_where : List ℕ → ℕ → ℕ → List ℕ
spells_where out at w = cond (leb (at + 12) (length out)) (spells out at w) out
