-- What decimals come to when PLtoTF 66 reads them, and the digits of a number.
-- Assumes nothing.
use mathlib.Core.Path.{◌≡◌, refl, ap, sym, ◌∙◌}
use mathlib.Core.Bool.{Bool, true, false}
use mathlib.Core.List.{List, [], ◌∷◌}
use mathlib.Core.Logic.{◌⊎◌, inl, inr}
use Prim.Native.Nat.{ℕ, zero, suc, ◌+◌, ◌-◌, ◌*◌, ◌/◌, ◌%◌, ◌^◌, ◌<◌, ◌≤◌}
use native.Mathlib.Nat.{mul-le-mul_right, pow-suc, pow-succ', div-lt_iff_lt-mul, div-add-mod', mod-lt}
use native.Mathlib.Omega.{arith}
use lib.ListN.{length, take}
use lib.Seq.{take_all}
use borrow.Author.Tests.{le-leb, leb-true}
use Rattle.words.proofs.Tests.{less_or_not}
use Rattle.points.specs.Scanning.{only_digits}
use Rattle.property_lists.specs.Reals.{decimal_sum, real_decimals}
use Rattle.property_lists.specs.RealTexts.{fixed_digits}
use Rattle.property_lists.specs.RealPurpose.{decimals_spelled, ReadsExactly}

-- ---- powers of ten

pub power_some : (k : ℕ) → 1 ≤ 10 ^ k
power_some zero = omega arith
power_some (suc k) = rw (pow-suc 10 k) (omega (arith, power_some k))

-- ---- the sum of PLtoTF 66

-- one digit more in front
sum_step : (b s v p : ℕ) → s * p ≤ 20971520 * v → 20971520 * v < (s + 1) * p →
    ((2097152 * b + s / 10) * (p * 10) ≤ 20971520 * (b * p + v)) × (20971520 * (b * p + v) < (2097152 * b + s / 10 + 1) * (p * 10))
sum_step b s v p l h =
    let q : 10 * (s / 10) * p ≤ s * p = mul-le-mul_right p (let e : 10 * (s / 10) ≤ s = omega arith in e) in
    let r : (s + 1) * p ≤ (10 * (s / 10) + 10) * p = mul-le-mul_right p (let e : s + 1 ≤ 10 * (s / 10) + 10 = omega arith in e) in
    (omega arith, omega arith)

-- it is ten times what the digits spell, in 2 ^ -21 and rounded down
pub sum_bounds : (bs : List ℕ) → (decimal_sum bs * 10 ^ length bs ≤ 20971520 * decimals_spelled bs)
    × (20971520 * decimals_spelled bs < (decimal_sum bs + 1) * 10 ^ length bs)
unfolding decimal_sum decimals_spelled
sum_bounds [] = (omega arith, omega arith)
sum_bounds (b ∷ bs) =
    let h = sum_bounds bs in
    rw (pow-suc 10 (length bs)) (sum_step (b - 48) (decimal_sum bs) (decimals_spelled bs) (10 ^ length bs) h.0 h.1)

-- ---- which number it is rounded to

module _ (f s v p : ℕ) (some-p : 1 ≤ p) (low : s * p ≤ 20971520 * v) (high : 20971520 * v < (s + 1) * p) where
  read_within : (s + 10) / 20 ≡ f → ((2 * f - 1) * p ≤ 2097152 * v) × (2097152 * v < (2 * f + 1) * p)
  read_within e =
      let a : 20 * f * p ≤ (s + 10) * p = mul-le-mul_right p (let g : 20 * f ≤ s + 10 = omega arith in g) in
      let b : (s + 1) * p ≤ (20 * f + 10) * p = mul-le-mul_right p (let g : s + 1 ≤ 20 * f + 10 = omega arith in g) in
      (by f a, omega arith)
    where
      by : (g : ℕ) → 20 * g * p ≤ (s + 10) * p → (2 * g - 1) * p ≤ 2097152 * v
      by zero a = omega arith
      by (suc g) a = let e : 2 * suc g - 1 ≡ 2 * g + 1 = omega arith in rw e (omega arith)

  within_read : (2 * f - 1) * p ≤ 2097152 * v → 2097152 * v < (2 * f + 1) * p → (s + 10) / 20 ≡ f
  within_read l h =
      let a : 20 * f ≤ s + 10 = not-less (less_or_not (s + 10) (20 * f)) in
      let b : s < 20 * f + 10 = not_more (less_or_not s (20 * f + 10)) in
      omega arith
    where
      twice : (g : ℕ) → (2 * g - 1) * p ≤ 2097152 * v → 2 * g * p ≤ 2097152 * v + p
      twice zero l = omega arith
      twice (suc g) l = let e : 2 * suc g - 1 ≡ 2 * g + 1 = omega arith in let k = rw e at l in omega arith

      not-less : (s + 10 < 20 * f) ⊎ (20 * f ≤ s + 10) → 20 * f ≤ s + 10
      not-less (inl k) =
          let g : (s + 11) * p ≤ 20 * f * p = mul-le-mul_right p (let e : s + 11 ≤ 20 * f = omega arith in e) in
          absurd (omega (arith, twice f l))
      not-less (inr k) = k

      not_more : (s < 20 * f + 10) ⊎ (20 * f + 10 ≤ s) → s < 20 * f + 10
      not_more (inl k) = k
      not_more (inr k) = let g : (20 * f + 10) * p ≤ s * p = mul-le-mul_right p k in absurd (omega arith)

pub reads_exactly : ReadsExactly
reads_exactly bs f few =
    let h = sum_bounds bs in
    let s = power_some (length bs) in
    let e : real_decimals bs ≡ (decimal_sum bs + 10) / 20 = rw (take_all 7 bs few) in (
      λ g. read_within f (decimal_sum bs) (decimals_spelled bs) (10 ^ length bs) s h.0 h.1 (sym e ∙ g),
      λ l u. e ∙ within_read f (decimal_sum bs) (decimals_spelled bs) (10 ^ length bs) s h.0 h.1 l u,
    )

-- ---- the digits of a number

pub fixed_long : (k d : ℕ) → length (fixed_digits k d) ≡ k
unfolding fixed_digits
fixed_long zero d = refl
fixed_long (suc k) d = ap suc (fixed_long k (d % 10 ^ k))

pub fixed_spelled : (k d : ℕ) → d < 10 ^ k → decimals_spelled (fixed_digits k d) ≡ d
unfolding fixed_digits decimals_spelled
fixed_spelled zero d h = omega arith
fixed_spelled (suc k) d h =
    let m : d % 10 ^ k < 10 ^ k = mod-lt d (power_some k) in
    let e : 48 + d / 10 ^ k - 48 ≡ d / 10 ^ k = omega arith in
    rw (fixed_long k (d % 10 ^ k), fixed_spelled k (d % 10 ^ k) m, e) (div-add-mod' d (10 ^ k))

pub fixed_only_digits : (k d : ℕ) → d < 10 ^ k → only_digits (fixed_digits k d) ≡ true
unfolding fixed_digits only_digits
fixed_only_digits zero d h = refl
fixed_only_digits (suc k) d h =
    let m : d % 10 ^ k < 10 ^ k = mod-lt d (power_some k) in
    let q : d / 10 ^ k < 10 = (div-lt_iff_lt-mul {k = 10 ^ k} {x = d} {y = 10} (power_some k)).1 (rw (pow-succ' 10 k) at h) in
    rw (le-leb 48 (48 + d / 10 ^ k) (omega arith), le-leb (48 + d / 10 ^ k) 57 (omega arith)) (fixed_only_digits k (d % 10 ^ k) m)
