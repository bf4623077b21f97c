-- What `find` answers where its search has come to its end.
-- Assumes nothing.
use mathlib.Core.Path.{◌≡◌, sym, ap}
use mathlib.Core.List.{List}
use Prim.Native.Nat.{ℕ, ◌<◌, ◌≤◌}
use lib.IntN.{ℤ}
use Rattle.lang.proofs.Bisection.{Bisecting, bisect_found, bisect_other, bisect_past}
use Rattle.std.specs.Prelude.{Some, None}
use Rattle.captions.specs.Tables.{pair_count, key_at, find, found_at}

module _ (pairs : List ℤ) (w lo hi : ℕ) (s : Bisecting (key_at pairs) (pair_count pairs) w lo hi) where
  pub found : hi ≤ lo → lo < pair_count pairs → key_at pairs lo ≡ w → Some lo ≡ found_at (find pairs w)
  found h l e = sym (ap found_at (bisect_found (key_at pairs) (pair_count pairs) w lo hi s h l e))

  pub other : hi ≤ lo → lo < pair_count pairs → (key_at pairs lo ≡ w → ⊥) → None ≡ found_at (find pairs w)
  other h l e = sym (ap found_at (bisect_other (key_at pairs) (pair_count pairs) w lo hi s h l e))

  pub past : hi ≤ lo → pair_count pairs ≤ lo → None ≡ found_at (find pairs w)
  past h l = sym (ap found_at (bisect_past (key_at pairs) (pair_count pairs) w lo hi s h l))
