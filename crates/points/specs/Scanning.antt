-- The scaled number of a decimal of points. Taken are digits, or digits with one point before, among or behind them, and nothing else:
-- at least one digit in all, no sign, no blank, no comma, no unit. Any number of zeros may stand in front, and any number of decimals
-- behind, of which the first 17 count (TeX 452) and are rounded (TeX 102). What comes to 2 ^ 27 scaled points or more, 2,048 points, is not
-- taken: no font's size is that large (TeX 1259).
use Rattle.std.specs.Prelude.{Bool, true, cond, List, [], ◌∷◌, ℕ, suc, ◌+◌, ◌-◌, ◌*◌, ◌/◌, leb, ltb, eqb, length, take, drop, Option as Answer, Some, None}
use Rattle.std.proofs.Math.Option.{Option, none, some}
use Rattle.lang.specs.Every.{both}

-- where the first point stands, or the length where there is none
unfoldable pub point_place : List ℕ → ℕ
point_place [] = 0
point_place (b ∷ bs) = cond (eqb b 46) 0 (suc (point_place bs))

-- every byte is a digit: 48 to 57
unfoldable pub only_digits : List ℕ → Bool
only_digits [] = true
only_digits (b ∷ bs) = both (both (leb 48 b) (leb b 57)) (only_digits bs)

-- the value of digits that stand behind those whose value is n
unfoldable pub digits_after : ℕ → List ℕ → ℕ
digits_after n [] = n
digits_after n (b ∷ bs) = digits_after (10 * n + (b - 48)) bs

-- decimals in 131,072nds of a point, from the last one to the first (the loop of TeX 102)
unfoldable pub half_scaled : List ℕ → ℕ
half_scaled [] = 0
half_scaled (b ∷ bs) = (half_scaled bs + (b - 48) * 131072) / 10

-- .. and rounded to 65,536ths
abbrev pub round_decimals : List ℕ → ℕ
round_decimals bs = (half_scaled bs + 1) / 2

-- a decimal of these whole points and these decimals
abbrev pub scaled_sum : List ℕ → List ℕ → ℕ
scaled_sum whole decimals = 65536 * digits_after 0 whole + round_decimals (take 17 decimals)

-- it is taken: digits alone, one at least, and the sum below 2 ^ 27
abbrev pub scaled_parts : List ℕ → List ℕ → Option ℕ
scaled_parts whole decimals =
    cond (both (only_digits whole) (only_digits decimals))
    (cond (eqb (length whole + length decimals) 0) none (cond (ltb (scaled_sum whole decimals) 134217728) (some (scaled_sum whole decimals)) none))
    none

-- what stands before the first point, and what stands behind it
abbrev pub scaled_of : List ℕ → Option ℕ
scaled_of text = scaled_parts (take (point_place text) text) (drop (suc (point_place text)) text)

-- what scan_points answers
abbrev pub scanned_as : Option ℕ → Answer ℕ
scanned_as none = None
scanned_as (some n) = Some n
