-- The text of a kern: a sign, the whole part, a point and decimals (TFtoPL 40 to 43), as few of them as PLtoTF reads back to the same number
-- (Reals), one at least. Bytes are those of ASCII: 45 a minus sign, 46 a point, 48 to 57 the digits.
use Rattle.std.specs.Prelude.{Bool, cond, List, [], ◌∷◌, ◌++◌, ℕ, zero, suc, ◌+◌, ◌-◌, ◌*◌, ◌/◌, ◌%◌, ◌^◌, ℤ, pos, negsuc, leb, ltb}
use Rattle.lang.specs.Every.{both}
use Rattle.points.specs.Printing.{whole_text}

-- R443: a fraction of f / 2 ^ 20 in units of 1 / p, the nearest number; of two that are as near, the higher
abbrev pub nearest_in : ℕ → ℕ → ℕ
nearest_in p f = (2 * f * p + 1048576) / 2097152

-- R444: d / p is read as f / 2 ^ 20, p a power of ten (theorem `reads-exactly`)
abbrev pub reads_as : ℕ → ℕ → ℕ → Bool
reads_as p f d = both (leb ((2 * f - 1) * p) (2097152 * d)) (ltb (2097152 * d) ((2 * f + 1) * p))

-- the first number of decimals from k on whose nearest is read back, at most n tried: the one after them is not asked
unfoldable pub places_from : ℕ → ℕ → ℕ → ℕ
places_from zero k f = k
places_from (suc n) k f = cond (reads_as (10 ^ k) f (nearest_in (10 ^ k) f)) k (places_from n (suc k) f)

-- how many decimals there are: seven do for every fraction (theorem `real-read-back`)
abbrev pub places_of : ℕ → ℕ
places_of f = places_from 6 1 f

-- the k last digits of d, zeros in front included
unfoldable pub fixed_digits : ℕ → ℕ → List ℕ
fixed_digits zero d = []
fixed_digits (suc k) d = (48 + d / 10 ^ k) ∷ fixed_digits k (d % 10 ^ k)

-- R443: the decimals of a fraction of f / 2 ^ 20
abbrev pub fraction_digits : ℕ → List ℕ
fraction_digits f = fixed_digits (places_of f) (nearest_in (10 ^ places_of f) f)

-- a number of 0 or more, 2 ^ 20 to the unit
abbrev pub magnitude_text : ℕ → List ℕ
magnitude_text n = whole_text (n / 1048576) ++ (46 ∷ fraction_digits (n % 1048576))

-- any number
abbrev pub real_text : ℤ → List ℕ
real_text (pos n) = magnitude_text n
real_text (negsuc n) = 45 ∷ magnitude_text (suc n)
