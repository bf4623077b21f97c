-- A pair that is found is in the table, and has the key. Assumes nothing.
use mathlib.Core.Path.{◌≡◌, refl, subst}
use mathlib.Core.Bool.{Bool, true, false, cond}
use mathlib.Core.List.{List}
use mathlib.Core.Option.{none, some}
use Prim.Native.Nat.{ℕ, ◌<◌}
use native.Mathlib.Omega.{arith}
use lib.IntN.{ℤ}
use lib.Dec.{ltb, eqb}
use borrow.Author.Tests.{eqb-true, ltb-true}
use Rattle.lang.specs.Every.{both}
use Rattle.captions.specs.Tables.{pair_count, key_at, place_for, find}

found_by_lem : (p n key w k : ℕ) (a b : Bool) → ltb p n ≡ a → eqb key w ≡ b → cond (both a b) (some p) none ≡ some k → (p ≡ k) × (k < n) × (key ≡ w)
found_by_lem p n key w k true true e g h =
    let m : p ≡ k = cc in
    (m, subst (λ (i : ℕ). i < n) m (ltb-true p n e), eqb-true key w g)
found_by_lem p n key w k true false e g h = absurd (let z : ◌≡◌ {A = ℕ} 0 1 = cc in omega arith)
found_by_lem p n key w k false b e g h = absurd (let z : ◌≡◌ {A = ℕ} 0 1 = cc in omega arith)

-- Over any table.
pub find_inside : (pairs : List ℤ) (w k : ℕ) → find pairs w ≡ some k → (k < pair_count pairs) × (key_at pairs k ≡ w)
find_inside pairs w k h =
    let d = found_by_lem (place_for pairs w) (pair_count pairs) (key_at pairs (place_for pairs w)) w k (ltb (place_for pairs w) (pair_count pairs))
    (eqb (key_at pairs (place_for pairs w)) w) refl refl h in
    (d.1, subst (λ (i : ℕ). key_at pairs i ≡ w) d.0 d.2)
