-- What is proved of a kern's text: proofs/RealTheorems proves each.
use Rattle.std.specs.Prelude.{◌≡◌, true, List, [], ◌∷◌, ℕ, ◌+◌, ◌-◌, ◌*◌, ◌/◌, ◌%◌, ◌^◌, ◌<◌, ◌≤◌, length}
use Rattle.std.proofs.Math.Option.{some}
use Rattle.points.specs.Scanning.{only_digits}
use Rattle.property_lists.specs.Reals.{real_decimals, real_magnitude}
use Rattle.property_lists.specs.RealTexts.{places_of, nearest_in, fraction_digits}

-- the number that decimals spell
unfoldable pub decimals_spelled : List ℕ → ℕ
decimals_spelled [] = 0
decimals_spelled (b ∷ bs) = (b - 48) * 10 ^ length bs + decimals_spelled bs

-- decimals are read as f exactly when they are within half a unit of it, the lower end included (PLtoTF 66)
abbrev pub ReadsExactly : Type 0
ReadsExactly =
    (bs : List ℕ) (f : ℕ) → length bs ≤ 7 →
    (real_decimals bs ≡ f → ((2 * f - 1) * 10 ^ length bs ≤ 2097152 * decimals_spelled bs) × (2097152 * decimals_spelled bs < (2 * f + 1) * 10 ^ length bs))
    × ((2 * f - 1) * 10 ^ length bs ≤ 2097152 * decimals_spelled bs → 2097152 * decimals_spelled bs < (2 * f + 1) * 10 ^ length bs → real_decimals bs ≡ f)

-- the text of a number below 2 ^ 31 has one to seven decimals, all digits, and is read as that number
pub record RealRead (n : ℕ) : Type 0 where
  pub some_places : 1 ≤ places_of (n % 1048576)
  pub few_places : places_of (n % 1048576) ≤ 7
  pub long : length (fraction_digits (n % 1048576)) ≡ places_of (n % 1048576)
  pub digits : only_digits (fraction_digits (n % 1048576)) ≡ true
  pub read : real_magnitude (n / 1048576) (fraction_digits (n % 1048576)) ≡ some n

abbrev pub RealReadBack : Type 0
RealReadBack = (n : ℕ) → n < 2147483648 → RealRead n

-- a whole part and decimals, one at least, that are read as a number are no fewer than those of its text
abbrev pub RealFewest : Type 0
RealFewest =
    (n whole : ℕ) (bs : List ℕ) → 1 ≤ length bs → real_magnitude whole bs ≡ some n → places_of (n % 1048576) ≤ length bs

-- how far d / p is from n / 2 ^ 20, in units of 1 / (2 ^ 20 p)
abbrev pub apart : ℕ → ℕ → ℕ → ℕ
apart p d n = (1048576 * d - n * p) + (n * p - 1048576 * d)

-- as many decimals as those of the text are not nearer, whatever they are read as
abbrev pub RealNearest : Type 0
RealNearest =
    (n d : ℕ) →
    apart (10 ^ places_of (n % 1048576)) (n / 1048576 * 10 ^ places_of (n % 1048576) + nearest_in (10 ^ places_of (n % 1048576)) (n % 1048576)) n
    ≤ apart (10 ^ places_of (n % 1048576)) d n
