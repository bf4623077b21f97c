-- A number past the end of a list reads as 0. Assumes nothing.
use mathlib.Core.Path.{refl}
use mathlib.Core.List.{List}
use Prim.Native.Nat.{ℕ, ◌≤◌}
use lib.IntN.{ℤ, pos}
use lib.ListN.{length, get_or, get_or-eq_default}
use mir.Facts.{sfits_lit}
use Rattle.words.specs.Words.{Word}

pub past : (s : List ℤ) (i : ℕ) → length s ≤ i → Word (get_or s i (pos 0)) 0
past s i h = rw (get_or-eq_default s (pos 0) {n = i} h) (record { is = refl; fits = sfits_lit tt })
