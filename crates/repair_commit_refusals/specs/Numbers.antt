-- The numbers of committing once the passes have answered: their refusal, 15 where a list is too short, 25 where the warnings handed over
-- are not those that they found (R404, R405).
use Rattle.std.specs.Prelude.{List, ℕ, ◌*◌, ℤ, eqb, length}
use Rattle.lang.specs.Every.{both}
use Rattle.lang.specs.Checks.{or_else, unless}
use Rattle.lang.specs.Answers.{room_refusal}
use Rattle.repairs.specs.declared.Validated.{Validated}
use Rattle.repairs.specs.declared.Validated.TheVariants.{Fixed, Refused}
use Rattle.repairs.specs.Committing.{starts_with}

-- 15: so many numbers and bytes, and as many numbers as are handed over, do not fit
abbrev pub fits_refusal : ℕ → ℕ → ℕ → ℕ → ℕ → ℕ → ℕ
fits_refusal numbers bytes handed fixed through found =
    or_else (room_refusal numbers fixed) (or_else (room_refusal bytes through) (room_refusal handed found))

-- the refusal of the passes; else 15
abbrev pub lower_refusal : Validated → ℕ → ℕ → ℕ → ℕ → ℕ → ℕ → ℕ
lower_refusal (Fixed left n) numbers bytes handed fixed through found = fits_refusal numbers bytes handed fixed through found
lower_refusal (Refused k) numbers bytes handed fixed through found = k

-- how many warnings the passes gave; 0 where they refuse
abbrev pub warned_count : Validated → ℕ
warned_count (Fixed left n) = n
warned_count (Refused k) = 0

-- 25, unless four numbers are handed over for each of n warnings, and they are those found
abbrev pub differ_refusal : List ℤ → List ℤ → ℕ → ℕ
differ_refusal handed found n = unless 25 (both (eqb (length handed) (4 * n)) (starts_with found handed))

-- a lower number, else 25
abbrev pub finish_refusal : Validated → ℕ → ℕ → List ℤ → ℕ → ℕ → List ℤ → ℕ
finish_refusal mended numbers bytes handed fixed through found =
    or_else (lower_refusal mended numbers bytes (length handed) fixed through (length found)) (differ_refusal handed found (warned_count mended))
