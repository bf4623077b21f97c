-- The numbers of an answer.
use Rattle.std.specs.Prelude.{◌≡◌, ℕ, ◌+◌, ◌<◌, Bool, cond, List, length, set, ℤ, nat_lt, slice_set}
use Rattle.words.specs.Words.{number_of}
use Rattle.lang.specs.declared.Written.{Written}
use Rattle.lang.specs.declared.Written.TheVariants.{Count, Refused}

-- 1 where a flag is set, else 0
abbrev pub bit_of : Bool → ℕ
bit_of b = cond b 1 0

-- d is d₀ with a number of these bits at place i, and r the place after it, or i itself where there is no room
pub record Put (d₀ : List ℤ) (i w r : ℕ) (d : List ℤ) : Type 0 where
  pub is : d ≡ slice_set d₀ i (number_of w)
  pub next : r ≡ cond (nat_lt i (length d₀)) (i + 1) i

-- so many numbers are fewer than there is room for, so none is missing
abbrev pub CountWithin : Written → ℕ → Type 0
CountWithin (Count n) room = n < room
CountWithin (Refused n) room = Unit
