-- The number that PLtoTF takes from the digits of a real (PLtoTF 62 to 66): 2 ^ 20 times its value, rounded. Digits are bytes, 48 to 57.
use Rattle.std.specs.Prelude.{Bool, cond, List, [], ◌∷◌, ℕ, ◌+◌, ◌-◌, ◌*◌, ◌/◌, ℤ, pos, leb, ltb, eqb, take}
use Rattle.std.proofs.Math.Option.{Option, none, some}
use Rattle.lang.specs.Every.{both}

-- the first loop of PLtoTF 66, from the last decimal to the first: 10 times the decimals in 2 ^ -21, each quotient rounded down
unfoldable pub decimal_sum : List ℕ → ℕ
decimal_sum [] = 0
decimal_sum (b ∷ bs) = 2097152 * (b - 48) + decimal_sum bs / 10

-- R441: decimals in 2 ^ -20. The first seven count, and all after them are passed over (PLtoTF 65, 66). It can be 2 ^ 20 itself
abbrev pub real_decimals : List ℕ → ℕ
real_decimals bs = (decimal_sum (take 7 bs) + 10) / 20

-- R442: a real of this whole part and these decimals, without its sign. 2048 or more is an error (PLtoTF 62, 64)
abbrev pub real_magnitude : ℕ → List ℕ → Option ℕ
real_magnitude whole bs =
    cond (ltb (1048576 * whole + real_decimals bs) 2147483648) (some (1048576 * whole + real_decimals bs)) none
