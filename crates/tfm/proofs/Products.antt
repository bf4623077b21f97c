-- The bounds of TeX 571: with z below 2 ^ 23 no product and no sum of the three low bytes passes 2 ^ 31.
-- Assumes nothing.
use Prim.Native.Nat.{ℕ, ◌+◌, ◌*◌, ◌/◌, ◌%◌, ◌^◌, ◌<◌, ◌≤◌}
use native.Mathlib.Nat.{mul-le-mul, div-le_self, le-div_iff_mul-le}
use native.Mathlib.Omega.{arith}
use Rattle.tfm.specs.declared.Multiplier.{Multiplier}
use Rattle.tfm.specs.Scaled.{Below, beta, low_bytes}

module _ (m : Multiplier) (w : Below m) where
  -- a byte times z; the bytes of a word are remainders by 256
  pub byte_times : (n : ℕ) → n % 256 * m.z ≤ 255 * 8388607
  byte_times n =
      let h : n % 256 ≤ 255 = omega arith in
      let k : m.z ≤ 8388607 = omega (arith, w.z_below) in
      mul-le-mul h k

  pub alpha_times : m.alpha * m.z < 2 ^ 31
  alpha_times =
      let k : m.z ≤ 8388607 = omega (arith, w.z_below) in
      omega (arith, mul-le-mul w.alpha_high k)

  pub beta_pos : 0 < beta m
  beta_pos = (le-div_iff_mul-le {k = m.alpha} {x = 1} {y = 256} (omega (arith, w.alpha_low))).1 (omega (arith, w.alpha_high))

  pub low_bytes_below : (b c d : ℕ) → low_bytes m (b % 256) (c % 256) (d % 256) < 2 ^ 31
  low_bytes_below b c d =
      omega (
        arith,
        byte_times b,
        byte_times c,
        byte_times d,
        div-le_self ((d % 256 * m.z / 256 + c % 256 * m.z) / 256 + b % 256 * m.z) (beta m),
      )
