-- The bytes that TeX prints for a scaled number, 65,536 to the point (TeX 101, 103): a minus sign where it is negative, the whole points,
-- a point, and one to five decimals, by a loop that ends once those that are printed are read as the number (theorem `read_back`). Bytes
-- are those of ASCII: 45 a minus sign, 46 a point, 48 to 57 the digits.
use Rattle.std.specs.Prelude.{◌≡◌, cond, List, [], ◌∷◌, ◌++◌, ℕ, zero, suc, ◌+◌, ◌-◌, ◌*◌, ◌/◌, ◌%◌, ℤ, pos, negsuc, leb, ltb, eqb, length}
use Rattle.lang.specs.declared.Written.{Written}
use Rattle.lang.specs.Answers.{room_refusal, written_reply, reply_of, list_of}

-- ---- whole points (TeX 65)

-- the last digit of n, and nothing where n is 0: a digit before the last one of a number, n what the number is without those after it
abbrev pub leading_digit : ℕ → List ℕ
leading_digit n = cond (eqb n 0) [] ((48 + n % 10) ∷ [])

-- a number below 100,000 in decimal, without zeros in front. An i32 has at most 32,768 whole points
abbrev pub whole_text : ℕ → List ℕ
whole_text n =
    leading_digit (n / 10 / 10 / 10 / 10)
    ++ (leading_digit (n / 10 / 10 / 10) ++ (leading_digit (n / 10 / 10) ++ (leading_digit (n / 10) ++ ((48 + n % 10) ∷ []))))

-- ---- decimals (TeX 103)

-- s before a digit is taken of it: the last digit that there is room for is rounded, which shows by a delta past 65,536
abbrev pub last_rounded : ℕ → ℕ → ℕ
last_rounded delta s = cond (ltb 65536 delta) (s + 32768 - 50000) s

-- what is left after a digit
abbrev pub after_digit : ℕ → ℕ → ℕ
after_digit delta s = 10 * (last_rounded delta s % 65536)

-- the decimals for s and delta, at most f of them: a digit, and further ones where more than ten times delta is left
unfoldable pub decimals_from : ℕ → ℕ → ℕ → List ℕ
decimals_from zero delta s = []
decimals_from (suc f) delta s =
    (48 + last_rounded delta s / 65536)
    ∷ cond (leb (after_digit delta s) (10 * delta)) [] (decimals_from f (10 * delta) (after_digit delta s))

-- the decimals of a part of a point, in 65,536ths. Five are enough (theorem `five-suffice`)
abbrev pub decimals_of : ℕ → List ℕ
decimals_of part = decimals_from 5 10 (10 * part + 5)

-- ---- the whole text

-- a number of 0 or more
abbrev pub size_text : ℕ → List ℕ
size_text n = whole_text (n / 65536) ++ (46 ∷ decimals_of (n % 65536))

-- any number. That of -2 ^ 31, which TeX cannot negate, is `-32768.0`
abbrev pub scaled_text : ℤ → List ℕ
scaled_text (pos n) = size_text n
scaled_text (negsuc n) = 45 ∷ size_text (suc n)

-- the contract of print_scaled: `out` is the list as it was lent, out' as it comes back
pub record PrintsScaled (value : ℤ) (out : List ℕ) (r : Written) (out' : List ℕ) : Type 0 where
  pub answer : written_reply r ≡ reply_of (room_refusal (length (scaled_text value)) (length out)) (pos (length (scaled_text value)) ∷ [])
  pub list : out' ≡ list_of (room_refusal (length (scaled_text value)) (length out)) 0 (length out) (scaled_text value)
