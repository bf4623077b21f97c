-- A number in a field of 12 columns: right-justified decimal, no leading zeros (R186). A lone minus sign, -0 and what is beyond an i32 are
-- unreadable (R187). Bytes are those of ASCII: 32 a blank, 45 a minus sign, 48 to 57 the digits.
use Rattle.std.specs.Prelude.{Bool, cond, List, [], ◌∷◌, ◌++◌, ℕ, zero, suc, ◌+◌, ◌-◌, ◌*◌, ◌/◌, ◌%◌, ℤ, pos, negsuc, leb, ltb, eqb, length, replicate}
use Rattle.std.proofs.Math.Option.{Option, none, some}
use Rattle.lang.specs.Every.{both}

-- ---- reading

-- a byte is a digit: 48 to 57
abbrev pub is_digit : ℕ → Bool
is_digit b = both (leb 48 b) (leb b 57)

-- digits after those whose value is n
unfoldable pub more_digits : ℕ → List ℕ → Option ℕ
more_digits n [] = some n
more_digits n (b ∷ bs) = cond (is_digit b) (more_digits (10 * n + (b - 48)) bs) none

-- the value where no bytes follow, else none
abbrev pub if_none : List ℕ → Option ℕ → Option ℕ
if_none [] r = r
if_none (b ∷ bs) r = none

-- digits: one at least, and 0 first only where it is alone
abbrev pub unsigned : List ℕ → Option ℕ
unsigned [] = none
unsigned (b ∷ bs) = cond (eqb b 48) (if_none bs (some 0)) (more_digits 0 (b ∷ bs))

-- an i32 without a sign: at most 2 ^ 31 - 1
abbrev pub without_sign : Option ℕ → Option ℤ
without_sign none = none
without_sign (some n) = cond (leb n 2147483647) (some (pos n)) none

-- an i32 after a minus sign: 1 to 2 ^ 31, so -0 is none
abbrev pub with_sign : Option ℕ → Option ℤ
with_sign none = none
with_sign (some zero) = none
with_sign (some (suc n)) = cond (leb n 2147483647) (some (negsuc n)) none

-- blanks, then a number
unfoldable pub read_field : List ℕ → Option ℤ
read_field [] = none
read_field (b ∷ bs) =
    cond (eqb b 32) (read_field bs) (cond (eqb b 45) (with_sign (unsigned bs)) (without_sign (unsigned (b ∷ bs))))

-- ---- writing

-- the decimal digits of a number of at most f digits
unfoldable pub digits : ℕ → ℕ → List ℕ
digits zero n = []
digits (suc f) n = cond (ltb n 10) ((48 + n) ∷ []) (digits f (n / 10) ++ ((48 + n % 10) ∷ []))

-- the bytes of a number: a minus sign where it is negative, and its digits, of which an i32 has at most ten
abbrev pub spelled : ℤ → List ℕ
spelled (pos n) = digits 10 n
spelled (negsuc n) = 45 ∷ digits 10 (suc n)

-- right-justified in 12 columns
abbrev pub field_of : ℤ → List ℕ
field_of z = replicate (12 - length (spelled z)) 32 ++ spelled z
