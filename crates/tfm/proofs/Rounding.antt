-- What TeX 571 claims of its nested divisions: they are one division, rounded down, so a negative number is rounded down
-- too and not towards zero. Assumes nothing.
use mathlib.Core.Path.{◌≡◌, sym, ◌∙◌}
use Prim.Native.Nat.{ℕ, suc, ◌+◌, ◌*◌, ◌-◌, ◌/◌, ◌%◌, ◌^◌, ◌<◌, ◌≤◌}
use native.Mathlib.Decide.{ℕ_discrete}
use native.Mathlib.Nat.{mul_assoc, mul_comm, mul_left_comm, add-mul, mul-sub, add-mul-div_left, div-div-eq-div-mul, mul-le-mul_right}
use native.Mathlib.Omega.{arith}
use lib.IntN.{ℤ, pos, ◌-ℤ◌, ◌*ℤ◌}
use lib.Signed.{shr_z}
use Rattle.std.specs.Prelude.{Ok}
use Rattle.words.specs.Words.{number_of}
use Rattle.words.proofs.Bits.{number_pos, number_neg}
use Rattle.tfm.specs.declared.Multiplier.{Multiplier}
use Rattle.tfm.specs.Scaled.{multiplier, beta, scaled_from}
use Rattle.tfm.proofs.Halving.{Halved, multiplier_halved}
use Rattle.tfm.proofs.Products.{beta_pos}
use Rattle.tfm.proofs.Differences.{neg_sub, shr_sub}
use Rattle.tfm.proofs.TopByte.{low_of, top_0, top_255, top_other}

-- the bytes put together, times z
bytes_times : (z b c d : ℕ) → d * z + 256 * (c * z) + 65536 * (b * z) ≡ (65536 * b + 256 * c + d) * z
bytes_times z b c d = rw (add-mul (65536 * b + 256 * c) d z, add-mul (65536 * b) (256 * c) z, mul_assoc 65536 b z, mul_assoc 256 c z) (omega arith)

pub nested : (z beta b c d : ℕ) → 0 < beta → ((d * z / 256 + c * z) / 256 + b * z) / beta ≡ (65536 * b + 256 * c + d) * z / (65536 * beta)
nested z beta b c d h =
    rw (
      ← add-mul-div_left (d * z) (c * z) {y = 256} (omega arith),
      div-div-eq-div-mul (d * z + 256 * (c * z)) 256 256,
      ← add-mul-div_left (d * z + 256 * (c * z)) (b * z) {y = 65536} (omega arith),
      bytes_times z b c d,
      div-div-eq-div-mul ((65536 * b + 256 * c + d) * z) 65536 beta,
    )

-- alpha times z, scaled, is 2 ^ 24 times z
top_times : (z alpha beta : ℕ) → alpha * beta ≡ 256 → alpha * z * (65536 * beta) ≡ 16777216 * z
top_times z alpha beta e =
    rw (mul_left_comm (alpha * z) 65536 beta, mul_assoc alpha z beta, mul_comm z beta, ← mul_assoc alpha beta z, e) (omega arith)

-- a negative number times z: l, its three low bytes, less 2 ^ 24
negative_times : (z w : ℕ) → w / 16777216 ≡ 255 → number_of w *ℤ pos z ≡ pos (w % 16777216 * z) -ℤ pos (16777216 * z)
negative_times z w e =
    let l : ℕ = w % 16777216 in
    let k : suc (2 ^ 32 - suc w) ≡ 16777216 - l = omega arith in
    let h : l ≤ 16777216 = omega arith in
    rw (number_neg w (omega arith), k, mul_comm (16777216 - l) z, mul-sub z 16777216 l, mul_comm z 16777216, mul_comm z l)
    (neg_sub (l * z) (16777216 * z) (mul-le-mul_right z h))

module _ (m : Multiplier) (h : Halved m) where
  -- the low bytes' sum is one quotient
  low_is : (w : ℕ) → low_of m w ≡ w % 16777216 * m.z / (65536 * beta m)
  low_is w =
      let k : 65536 * (w / 65536 % 256) + 256 * (w / 256 % 256) + w % 256 ≡ w % 16777216 = omega arith in
      nested m.z (beta m) (w / 65536 % 256) (w / 256 % 256) (w % 256) (beta_pos m h.below) ∙ rw k

  positive_is : (w : ℕ) → w / 16777216 ≡ 0 → pos (low_of m w) ≡ shr_z (number_of w *ℤ pos m.z) (65536 * beta m)
  positive_is w e =
      let k : w % 16777216 ≡ w = omega arith in
      rw (number_pos w (omega arith), low_is w, k)

  negative_is : (w : ℕ) → w / 16777216 ≡ 255 → pos (low_of m w) -ℤ pos (m.alpha * m.z) ≡ shr_z (number_of w *ℤ pos m.z) (65536 * beta m)
  negative_is w e =
      rw (negative_times m.z w e, ← top_times m.z m.alpha (beta m) h.whole, low_is w)
      (sym (shr_sub (w % 16777216 * m.z) (m.alpha * m.z) (65536 * beta m) (omega (arith, beta_pos m h.below))))

pub rounded_down : (w z : ℕ) → w < 2 ^ 32 → z < 2 ^ 27 → (v : ℤ) → scaled_from z w ≡ Ok v →
    v ≡ shr_z (number_of w *ℤ pos (multiplier z).z) (65536 * beta (multiplier z))
rounded_down w z hw hz v s = by (ℕ_discrete (w / 16777216) 0) (ℕ_discrete (w / 16777216) 255)
  where
    by : Dec (w / 16777216 ≡ 0) → Dec (w / 16777216 ≡ 255) → v ≡ shr_z (number_of w *ℤ pos (multiplier z).z) (65536 * beta (multiplier z))
    by (yes e) d =
        let k : v ≡ pos (low_of (multiplier z) w) = cc (top_0 z w e) in
        k ∙ positive_is (multiplier z) (multiplier_halved z hz) w e
    by (no n) (yes e) =
        let k : v ≡ pos (low_of (multiplier z) w) -ℤ pos ((multiplier z).alpha * (multiplier z).z) = cc (top_255 z w e) in
        k ∙ negative_is (multiplier z) (multiplier_halved z hz) w e
    by (no n) (no k) = let c : ◌≡◌ {A = ℕ} 0 1 = cc (top_other z w n k) in absurd (omega arith)
