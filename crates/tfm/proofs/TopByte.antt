-- TeX 571: what a word is scaled to, by its top byte.
-- Assumes nothing.
use mathlib.Core.Path.{◌≡◌}
use Prim.Native.Nat.{ℕ, ◌*◌, ◌/◌, ◌%◌}
use lib.IntN.{pos, ◌-ℤ◌}
use borrow.Author.Tests.{ne_eqb}
use Rattle.std.specs.Prelude.{Ok, Err}
use Rattle.tfm.specs.declared.Multiplier.{Multiplier}
use Rattle.tfm.specs.declared.ScalingError.TheVariants.{TooLarge}
use Rattle.tfm.specs.Scaled.{multiplier, low_bytes, scaled_from}

-- the sum of the three low bytes of w
abbrev pub low_of : Multiplier → ℕ → ℕ
low_of m w = low_bytes m (w / 65536 % 256) (w / 256 % 256) (w % 256)

module _ (z w : ℕ) where
  pub top_0 : w / 16777216 ≡ 0 → scaled_from z w ≡ Ok (pos (low_of (multiplier z) w))
  top_0 e = rw e

  pub top_255 : w / 16777216 ≡ 255 → scaled_from z w ≡ Ok (pos (low_of (multiplier z) w) -ℤ pos ((multiplier z).alpha * (multiplier z).z))
  top_255 e = rw e

  pub top_other : (w / 16777216 ≡ 0 → ⊥) → (w / 16777216 ≡ 255 → ⊥) → scaled_from z w ≡ Err TooLarge
  top_other h k = rw (ne_eqb (w / 16777216) 0 h, ne_eqb (w / 16777216) 255 k)
