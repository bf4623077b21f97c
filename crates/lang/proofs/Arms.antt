-- Whether a number is one of a list, and what the `_` of a `match` on a number knows: it is in none of the arms above it. Assumes nothing.
use mathlib.Core.Path.{◌≡◌}
use mathlib.Core.Bool.{Bool, false, ◌||◌}
use mathlib.Core.List.{List, [], ◌∷◌}
use Prim.Native.Nat.{ℕ}
use lib.Dec.{eqb}

-- n is one of the numbers of the list
abbrev pub one_of : ℕ → List ℕ → Bool
one_of n [] = false
one_of n (x ∷ xs) = eqb n x || one_of n xs

-- that n is none of the list's numbers, as the tuple that an arm is handed: nested to the left, the last number outermost, with R innermost
abbrev pub NoneOf : Type 0 → ℕ → List ℕ → Type 0
NoneOf R n [] = R
NoneOf R n (x ∷ xs) = NoneOf (R × (n ≡ x → ⊥)) n xs
