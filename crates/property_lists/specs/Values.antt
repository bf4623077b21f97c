-- The values of properties as PLtoTF scans them (PLtoTF 50 to 66): bytes and reals. A scanner takes the rest of a text and gives a number and
-- what follows it; none is 23.
use Rattle.std.specs.Prelude.{◌≡◌, Bool, false, cond, not, List, [], ◌∷◌, ℕ, ◌+◌, ◌-◌, ◌*◌, ◌%◌, ◌≤◌, leb, ltb, eqb, length, drop}
use Rattle.std.proofs.Math.Option.{Option, none, some}
use Rattle.property_lists.specs.declared.ValueRead.{ValueRead}
use Rattle.property_lists.specs.declared.ValueRead.TheVariants as read
use Rattle.lang.specs.Every.{both}
use Rattle.property_lists.specs.Reals.{real_magnitude}
use Rattle.property_lists.specs.Chars.{upper_case, is_capital, is_figure, is_visible, one_of, then_by, past_blanks}

-- ---- bytes

-- a digit's number: A to Z are 10 to 35, and what is no digit 99
abbrev pub figure_of : ℕ → ℕ
figure_of b = cond (is_figure b) (b - 48) (cond (is_capital (upper_case b)) (upper_case b - 55) 99)

-- D, O and H (PLtoTF 53 to 55): digits after those whose value is n, 255 at most
unfoldable pub byte_digits : ℕ → ℕ → List ℕ → Option (ℕ × List ℕ)
byte_digits base n [] = some (n, [])
byte_digits base n (b ∷ bs) =
    cond (ltb (figure_of b) base)
    (cond (leb (base * n + figure_of b) 255) (byte_digits base (base * n + figure_of b) bs) none)
    (some (n, b ∷ bs))

-- C (PLtoTF 52): a character that shows in print, in its own case, and no parenthesis
abbrev pub char_value : List ℕ → Option (ℕ × List ℕ)
char_value [] = none
char_value (b ∷ bs) = cond (is_visible b) (some (b, bs)) none

-- F (PLtoTF 56): weight M, B or L, slope R or I, expansion R, C or E; 18 for another
abbrev pub weight_of : ℕ → ℕ
weight_of b = cond (eqb b 77) 0 (cond (eqb b 66) 2 (cond (eqb b 76) 4 18))

abbrev pub slope_of : ℕ → ℕ
slope_of b = cond (eqb b 82) 0 (cond (eqb b 73) 1 18)

abbrev pub expansion_of : ℕ → ℕ
expansion_of b = cond (eqb b 82) 0 (cond (eqb b 67) 6 (cond (eqb b 69) 12 18))

abbrev pub face_of : ℕ → ℕ → ℕ → ℕ
face_of a b c = weight_of (upper_case a) + slope_of (upper_case b) + expansion_of (upper_case c)

abbrev pub face_value : List ℕ → Option (ℕ × List ℕ)
face_value [] = none
face_value (a ∷ []) = none
face_value (a ∷ b ∷ []) = none
face_value (a ∷ b ∷ c ∷ bs) = cond (ltb (face_of a b c) 18) (some (face_of a b c, bs)) none

-- by the letter of its type, in upper case
abbrev pub typed_byte : ℕ → List ℕ → Option (ℕ × List ℕ)
typed_byte t bs =
    cond (eqb t 67) (char_value bs)
    (cond (eqb t 68) (byte_digits 10 0 bs)
    (cond (eqb t 79) (byte_digits 8 0 bs)
    (cond (eqb t 72) (byte_digits 16 0 bs)
    (cond (eqb t 70) (face_value bs) none))))

-- what stands after the letter of a type and blanks
abbrev pub by_type : (ℕ → List ℕ → Option (ℕ × List ℕ)) → List ℕ → Option (ℕ × List ℕ)
by_type f [] = none
by_type f (t ∷ bs) = then_by (past_blanks bs) (f (upper_case t))

-- R453: a byte (PLtoTF 51)
abbrev pub byte_value : List ℕ → Option (ℕ × List ℕ)
byte_value bs = then_by (past_blanks bs) (by_type typed_byte)

-- ---- reals

-- a blank or a sign, and a line's end as in `passOver` (PLtoTF 63)
abbrev pub is_sign : Bool → ℕ → Bool
is_sign held b = one_of (eqb b 10) (one_of (eqb b 13) (both (not held) (one_of (eqb b 32) (one_of (eqb b 43) (eqb b 45)))))

-- signs and blanks: `minus` is 1 where an odd number of minus signs was passed, else 0
unfoldable pub past_signs : Bool → ℕ → List ℕ → Option (ℕ × List ℕ)
past_signs held minus [] = cond held none (some (minus, []))
past_signs held minus (b ∷ bs) =
    cond (is_sign held b) (past_signs (eqb b 13) (cond (eqb b 45) (1 - minus) minus) bs)
    (cond held none (some (minus, b ∷ bs)))

-- the whole part after digits whose value is n, below 2048 (PLtoTF 64)
unfoldable pub whole_digits : ℕ → List ℕ → Option (ℕ × List ℕ)
whole_digits n [] = some (n, [])
whole_digits n (b ∷ bs) =
    cond (is_figure b)
    (cond (ltb (10 * n + (b - 48)) 2048) (whole_digits (10 * n + (b - 48)) bs) none)
    (some (n, b ∷ bs))

-- the digits that a text starts with, and what follows them (PLtoTF 66)
unfoldable pub figures : List ℕ → List ℕ
figures [] = []
figures (b ∷ bs) = cond (is_figure b) (b ∷ figures bs) []

unfoldable pub past_figures : List ℕ → List ℕ
past_figures [] = []
past_figures (b ∷ bs) = cond (is_figure b) (past_figures bs) (b ∷ bs)

-- the decimals, if a point stands here, and what follows them
abbrev pub decimals_at : List ℕ → List ℕ
decimals_at [] = []
decimals_at (b ∷ bs) = cond (eqb b 46) (figures bs) []

abbrev pub past_decimals : List ℕ → List ℕ
past_decimals [] = []
past_decimals (b ∷ bs) = cond (eqb b 46) (past_figures bs) (b ∷ bs)

-- the 32 bits of a number, minus 1 for a negative one
abbrev pub bits_of : ℕ → ℕ → ℕ
bits_of minus m = cond (eqb minus 1) ((4294967296 - m) % 4294967296) m

abbrev pub real_from : ℕ → ℕ → List ℕ → Option (ℕ × List ℕ)
real_from minus whole bs = then_by (real_magnitude whole (decimals_at bs)) (λ m. some (bits_of minus m, past_decimals bs))

abbrev pub real_digits : ℕ × List ℕ → Option (ℕ × List ℕ)
real_digits s = then_by (whole_digits 0 s.1) (λ w. real_from s.0 w.0 w.1)

-- R or D, signs and blanks, and digits
abbrev pub typed_real : List ℕ → Option (ℕ × List ℕ)
typed_real [] = none
typed_real (t ∷ bs) = cond (one_of (eqb (upper_case t) 82) (eqb (upper_case t) 68)) (then_by (past_signs false 0 bs) real_digits) none

-- R454: the 32 bits of a real in 2 ^ -20 (PLtoTF 62)
abbrev pub real_value : List ℕ → Option (ℕ × List ℕ)
real_value bs = then_by (past_blanks bs) typed_real

-- ---- the contract of functions that read a number

-- the number, and the rest of the text after it
abbrev pub number_after : List ℕ → ValueRead → Option (ℕ × List ℕ)
number_after text (read.Value v n) = some (v, drop n text)
number_after text read.Refused = none

abbrev pub place_read : ℕ → ValueRead → ℕ
place_read d (read.Value v n) = n
place_read d read.Refused = d

pub record Scans (o : Option (ℕ × List ℕ)) (text : List ℕ) (at least : ℕ) (r : ValueRead) : Type 0 where
  pub is : number_after text r ≡ o
  pub low : at ≤ length text → at + least ≤ place_read (at + least) r
  pub high : place_read (length text) r ≤ length text
