-- The loop of TeX 572: z below 2 ^ 27 is halved at most four times, alpha stays between 16 and 256 and divides 256.
-- Assumes nothing.
use mathlib.Core.Path.{◌≡◌, refl, sym}
use Prim.Native.Nat.{ℕ, zero, suc, ◌+◌, ◌*◌, ◌/◌, ◌^◌, ◌<◌, ◌≤◌}
use native.Mathlib.Decide.{dec_lt}
use native.Mathlib.Nat.{pow-suc, mul_assoc, add-mul, le-mul_of_pos_right, div-eq_of_eq-mul_right}
use native.Mathlib.Omega.{arith}
use lib.Pow.{pow_pos}
use borrow.Author.Tests.{lt-ltb, le-ltb}
use Rattle.tfm.specs.declared.Multiplier.{Multiplier}
use Rattle.tfm.specs.Scaled.{halve, multiplier, beta, Below}

-- one test of the loop
pub halve_stops : (n z alpha : ℕ) → z < 8388608 → halve n z alpha ≡ record { z = z; alpha = alpha }
unfolding halve
halve_stops zero z alpha h = refl
halve_stops (suc n) z alpha h = rw (lt-ltb z 8388608 h, halve)

pub halve_turns : (n z alpha : ℕ) → 8388608 ≤ z → halve (suc n) z alpha ≡ halve n (z / 2) (alpha + alpha)
unfolding halve
halve_turns n z alpha h = rw (le-ltb z 8388608 h, halve)

-- n halvings are enough for z, and alpha doubled n times is 256
pub record Enough (n z alpha : ℕ) : Type 0 where
  pub z_enough : z < 8388608 * 2 ^ n
  pub alpha_low : 16 ≤ alpha
  pub alpha_whole : alpha * 2 ^ n ≡ 256

pub enough_start : (size : ℕ) → size < 2 ^ 27 → Enough 4 size 16
enough_start size h = record { z_enough = h; alpha_low = omega arith; alpha_whole = refl }

pub enough_turns : (n z alpha : ℕ) → Enough (suc n) z alpha → Enough n (z / 2) (alpha + alpha)
enough_turns n z alpha e =
    record {
      z_enough = let h : z < 8388608 * (2 ^ n * 2) = rw pow-suc at e.z_enough in omega arith;
      alpha_low = omega (arith, e.alpha_low);
      alpha_whole =
          let h : alpha * (2 ^ n * 2) ≡ 256 = rw pow-suc at e.alpha_whole in
          let k : alpha * 2 ^ n * 2 ≡ 256 = rw (mul_assoc alpha (2 ^ n) 2) h in
          rw (add-mul alpha alpha (2 ^ n)) (omega arith);
    }

pub enough_zero : (z alpha : ℕ) → Enough zero z alpha → z < 8388608
enough_zero z alpha e = e.z_enough

pub alpha_below : (n z alpha : ℕ) → Enough n z alpha → alpha ≤ 256
alpha_below n z alpha e = omega (arith, le-mul_of_pos_right {m = 2 ^ n} alpha (pow_pos n), e.alpha_whole)

-- what the loop leaves: the bounds, and an alpha that times beta is 256
pub record Halved (m : Multiplier) : Type 0 where
  pub below : Below m
  pub whole : m.alpha * beta m ≡ 256

stopped : (n z alpha : ℕ) → Enough n z alpha → z < 8388608 → Halved (halve n z alpha)
stopped n z alpha e h =
    rw (halve_stops n z alpha h)
    (record {
      below = record { z_below = h; alpha_low = e.alpha_low; alpha_high = alpha_below n z alpha e };
      whole = rw (div-eq_of_eq-mul_right {k = 2 ^ n} (omega (arith, e.alpha_low)) (sym e.alpha_whole)) e.alpha_whole;
    })

pub halved : (n z alpha : ℕ) → Enough n z alpha → Halved (halve n z alpha)
halved zero z alpha e = stopped zero z alpha e e.z_enough
halved (suc n) z alpha e = turned (dec_lt z 8388608) (halved n (z / 2) (alpha + alpha) (enough_turns n z alpha e))
  where
    turned : Dec (z < 8388608) → Halved (halve n (z / 2) (alpha + alpha)) → Halved (halve (suc n) z alpha)
    turned (yes h) b = stopped (suc n) z alpha e h
    turned (no h) b = rw (halve_turns n z alpha (omega (arith, h))) b

pub multiplier_halved : (size : ℕ) → size < 2 ^ 27 → Halved (multiplier size)
multiplier_halved size h = halved 4 size 16 (enough_start size h)
