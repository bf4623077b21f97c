-- A search by halves, over places that have keys. It is said of any keys; where they ascend it finds the place of a key
-- (proofs/Bisection).
use Rattle.std.specs.Prelude.{cond, ℕ, zero, suc, ◌+◌, ◌-◌, ◌/◌, ltb, eqb}
use Rattle.std.proofs.Math.Option.{Option, none, some}
use Rattle.lang.specs.Every.{both}

-- the first of the places from lo up to hi whose key is not below the wanted one, if they ascend; at most n halvings
unfoldable pub bisect : (ℕ → ℕ) → ℕ → ℕ → ℕ → ℕ → ℕ
bisect key wanted zero lo hi = lo
bisect key wanted (suc n) lo hi =
    let mid = lo + (hi - lo) / 2 in
    cond (ltb lo hi)
    (cond (ltb (key mid) wanted) (bisect key wanted n (suc mid) hi) (bisect key wanted n lo mid))
    lo

-- where the search among the first n places ends
abbrev pub bisected : (ℕ → ℕ) → ℕ → ℕ → ℕ
bisected key n wanted = bisect key wanted n 0 n

-- the place that has the key, as the search among the first n places finds it
abbrev pub found_by : (ℕ → ℕ) → ℕ → ℕ → Option ℕ
found_by key n wanted =
    cond (both (ltb (bisected key n wanted) n) (eqb (key (bisected key n wanted)) wanted)) (some (bisected key n wanted)) none
