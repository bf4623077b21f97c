-- The arithmetic of word_of and number_of: a sum and a difference with 2 ^ 32 in 64 bits.
-- Assumes nothing.
use mathlib.Core.Path.{◌≡◌}
use mathlib.Core.Bool.{true}
use Prim.Native.Nat.{ℕ, suc, ◌^◌, ◌<◌, ◌≤◌}
use native.Mathlib.Omega.{arith}
use lib.IntN.{ℤ, pos, negsuc, ◌+ℤ◌, ◌-ℤ◌}
use lib.Signed.{lt_z}
use mir.Syntax.{w32, w64}
use mir.Val.{of_z, to_z, SFits}
use mir.Facts.{sfits_widen}
use mir.ValLaws.{to_z-of_z}
use borrow.Author.Tests.{lt-ltb, le-ltb, ltb-true}
use Rattle.words.specs.Words.{word_of, number_of}
use Rattle.words.proofs.Bits.{number_neg}

-- an i32 in 64 bits is itself
abbrev pub wide : ℤ → ℤ
wide z = to_z w64 (of_z w64 (to_z w32 (of_z w32 z)))

pub wide_is : (z : ℤ) → SFits w32 z → wide z ≡ z
wide_is z f = rw (to_z-of_z w32 z f) (to_z-of_z w64 z (sfits_widen tt f))

-- a negative number plus 2 ^ 32 is its bits
pub sum_is : (z : ℤ) → SFits w32 z → lt_z z (pos 0) ≡ true → z +ℤ pos 4294967296 ≡ pos (word_of z)
sum_is (pos n) f t = absurd (omega (arith, ltb-true n 0 t))
sum_is (negsuc n) f t = rw (le-ltb 4294967296 (suc n) (omega (arith, f.sfits)))

pub word_wide : (z : ℤ) → SFits w32 z → SFits w64 (pos (word_of z))
word_wide (pos n) f = record { sfits = omega (arith, f.sfits) }
word_wide (negsuc n) f = record { sfits = omega (arith, f.sfits) }

-- the bits from 2 ^ 31 on, less 2 ^ 32
pub wide_word : (w : ℕ) → w < 2 ^ 32 → to_z w64 w ≡ pos w
wide_word w h = rw (lt-ltb w (2 ^ 63) (omega arith))

pub difference_is : (w : ℕ) → 2 ^ 31 ≤ w → w < 2 ^ 32 → to_z w64 w -ℤ pos 4294967296 ≡ number_of w
difference_is w h l = rw (wide_word w l, number_neg w h, lt-ltb w 4294967296 l)
