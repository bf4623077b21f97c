-- An i32 as its 32 bits, two's complement, and back. Definitions speak of ℤ; code computes with the bits.
use Rattle.std.specs.Prelude.{◌≡◌, ℕ, ℤ}
use Rattle.std.specs.Int.{w32}
use Rattle.std.proofs.Common.{of_z, to_z, SFits}

-- the bits of z: z itself, or 2 ^ 32 + z where z is negative
abbrev pub word_of : ℤ → ℕ
word_of z = of_z w32 z

-- the number whose bits are w: w itself below 2 ^ 31, else w - 2 ^ 32
abbrev pub number_of : ℕ → ℤ
number_of w = to_z w32 w

-- r is the word of the number z, and z is an i32
pub record Word (z : ℤ) (r : ℕ) : Type 0 where
  pub is : r ≡ word_of z
  pub fits : SFits w32 z
