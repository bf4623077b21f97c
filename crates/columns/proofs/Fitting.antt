-- Lists of i32, by their places and whole.
-- Assumes nothing.
use mathlib.Core.Path.{◌≡◌, refl}
use mathlib.Core.Bool.{true}
use mathlib.Core.List.{List, [], ◌∷◌, ◌++◌}
use Prim.Native.Nat.{ℕ, zero, suc}
use lib.IntN.{ℤ, pos}
use lib.ListN.{get_or}
use Rattle.lang.proofs.Every.{both_left, both_right}
use Rattle.columns.specs.Purpose.{is_i32, all_i32}

-- at every place
abbrev pub Fits : List ℤ → Type 0
Fits zs = (i : ℕ) → is_i32 (get_or zs i (pos 0)) ≡ true

pub all_fit : (zs : List ℤ) → all_i32 zs ≡ true → Fits zs
unfolding all_i32
all_fit [] e i = refl
all_fit (z ∷ zs) e zero = both_left (is_i32 z) (all_i32 zs) e
all_fit (z ∷ zs) e (suc i) = all_fit zs (both_right (is_i32 z) (all_i32 zs) e) i

pub all_both : (ys zs : List ℤ) → all_i32 ys ≡ true → all_i32 zs ≡ true → all_i32 (ys ++ zs) ≡ true
unfolding all_i32
all_both [] zs e f = f
all_both (y ∷ ys) zs e f = rw (both_left (is_i32 y) (all_i32 ys) e, all_both ys zs (both_right (is_i32 y) (all_i32 ys) e) f)
