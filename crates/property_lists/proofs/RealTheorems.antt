-- Proves what specs/RealPurpose states.
-- Assumes nothing.
use mathlib.Core.Path.{◌≡◌, refl, ap, sym, ◌∙◌}
use mathlib.Core.Bool.{Bool, true, false, cond}
use mathlib.Core.List.{List, [], ◌∷◌}
use mathlib.Core.Logic.{◌⊎◌, inl, inr}
use mathlib.Core.Option.{Option, none, some}
use Prim.Native.Nat.{ℕ, zero, suc, ◌+◌, ◌-◌, ◌*◌, ◌/◌, ◌%◌, ◌^◌, ◌<◌, ◌≤◌}
use native.Mathlib.Nat.{mul-le-mul_right}
use native.Mathlib.Omega.{arith}
use lib.Dec.{leb, ltb}
use lib.ListN.{length}
use borrow.Author.Tests.{lt-ltb, le-leb, leb-true, ltb-true}
use Rattle.words.proofs.Tests.{less_or_not}
use Rattle.lang.proofs.Every.{both_left, both_right}
use Rattle.property_lists.specs.Reals.{decimal_sum, real_decimals, real_magnitude}
use Rattle.property_lists.specs.RealTexts.{nearest_in, reads_as, places_from, places_of, fixed_digits, fraction_digits}
use Rattle.property_lists.specs.RealPurpose.{decimals_spelled, RealRead, RealReadBack, RealFewest, apart, RealNearest}
use Rattle.property_lists.proofs.RealDigits.{power_some, reads_exactly, fixed_long, fixed_spelled, fixed_only_digits}

-- ---- how many decimals

-- r is the first number from k on whose nearest is read back, or k + n
record Placed (n k f r : ℕ) : Type 0 where
  least : k ≤ r
  most : r ≤ k + n
  reads : r < k + n → reads_as (10 ^ r) f (nearest_in (10 ^ r) f) ≡ true
  before : (j : ℕ) → k ≤ j → j < r → reads_as (10 ^ j) f (nearest_in (10 ^ j) f) ≡ true → ⊥

placed_by : (n k f : ℕ) (t : Bool) → reads_as (10 ^ k) f (nearest_in (10 ^ k) f) ≡ t → Placed n (suc k) f (places_from n (suc k) f) →
    Placed (suc n) k f (cond t k (places_from n (suc k) f))
placed_by n k f true e p = record { least = omega arith; most = omega arith; reads = λ h. e; before = λ j a b c. omega arith }
placed_by n k f false e p =
    record {
      least = omega (arith, p.least);
      most = omega (arith, p.most);
      reads = λ h. p.reads (omega arith);
      before = λ j a b c. later j (less_or_not k j) a b c;
    }
  where
    later : (j : ℕ) → (k < j) ⊎ (j ≤ k) → k ≤ j → j < places_from n (suc k) f → reads_as (10 ^ j) f (nearest_in (10 ^ j) f) ≡ true → ⊥
    later j (inl h) a b c = p.before j (omega arith) b c
    later j (inr h) a b c =
        let g : j ≡ k = omega arith in
        let u : reads_as (10 ^ k) f (nearest_in (10 ^ k) f) ≡ true = rw g at c in
        let z : ◌≡◌ {A = ℕ} 0 1 = ap (λ (t : Bool). cond t 1 0) (sym e ∙ u) in
        omega arith

placed : (n k f : ℕ) → Placed n k f (places_from n k f)
unfolding places_from
placed zero k f = record { least = omega arith; most = omega arith; reads = λ h. absurd (omega arith); before = λ j a b c. omega arith }
placed (suc n) k f = placed_by n k f (reads_as (10 ^ k) f (nearest_in (10 ^ k) f)) refl (placed n (suc k) f)

pub places_few : (f : ℕ) → places_of f ≤ 7
places_few f = (placed 6 1 f).most

-- ---- the nearest is read back

record Within (p f d : ℕ) : Type 0 where
  low : (2 * f - 1) * p ≤ 2097152 * d
  high : 2097152 * d < (2 * f + 1) * p

reads_within : (p f d : ℕ) → reads_as p f d ≡ true → Within p f d
reads_within p f d e =
    let a = leb ((2 * f - 1) * p) (2097152 * d) in
    let b = ltb (2097152 * d) ((2 * f + 1) * p) in
    record {
      low = leb-true ((2 * f - 1) * p) (2097152 * d) (both_left a b e);
      high = ltb-true (2097152 * d) ((2 * f + 1) * p) (both_right a b e);
    }

within_reads : (p f d : ℕ) → Within p f d → reads_as p f d ≡ true
within_reads p f d w = rw (le-leb ((2 * f - 1) * p) (2097152 * d) w.low, lt-ltb (2097152 * d) ((2 * f + 1) * p) w.high)

-- seven decimals always are
seven_within : (f : ℕ) → Within 10000000 f (nearest_in 10000000 f)
seven_within f = record { low = omega arith; high = omega arith }

places_within : (f : ℕ) → Within (10 ^ places_of f) f (nearest_in (10 ^ places_of f) f)
places_within f = by (less_or_not (places_of f) 7)
  where
    by : (places_of f < 7) ⊎ (7 ≤ places_of f) → Within (10 ^ places_of f) f (nearest_in (10 ^ places_of f) f)
    by (inl h) = reads_within (10 ^ places_of f) f (nearest_in (10 ^ places_of f) f) ((placed 6 1 f).reads h)
    by (inr h) = let e : places_of f ≡ 7 = omega (arith, (placed 6 1 f).most) in rw e (seven_within f)

-- what is read as a fraction is below one
within_small : (p f d : ℕ) → f < 1048576 → Within p f d → d < p
within_small p f d h w =
    let a : (2 * f + 1) * p ≤ 2097151 * p = mul-le-mul_right p (let e : 2 * f + 1 ≤ 2097151 = omega arith in e) in
    omega (arith, w.high)

module _ (f : ℕ) (small : f < 1048576) where
  pub fraction_small : nearest_in (10 ^ places_of f) f < 10 ^ places_of f
  fraction_small = within_small (10 ^ places_of f) f (nearest_in (10 ^ places_of f) f) small (places_within f)

  pub fraction_long : length (fraction_digits f) ≡ places_of f
  fraction_long = fixed_long (places_of f) (nearest_in (10 ^ places_of f) f)

  pub fraction_read : real_decimals (fraction_digits f) ≡ f
  fraction_read =
      let l : length (fraction_digits f) ≡ places_of f = fraction_long in
      let v : decimals_spelled (fraction_digits f) ≡ nearest_in (10 ^ places_of f) f =
      fixed_spelled (places_of f) (nearest_in (10 ^ places_of f) f) fraction_small in
      let w = places_within f in
      (reads_exactly (fraction_digits f) f (omega (arith, l, (placed 6 1 f).most))).1 (rw (l, v) w.low) (rw (l, v) w.high)

pub real_read_back : RealReadBack
real_read_back n h =
    let small : n % 1048576 < 1048576 = omega arith in
    record {
      some_places = (placed 6 1 (n % 1048576)).least;
      few_places = (placed 6 1 (n % 1048576)).most;
      long = fraction_long (n % 1048576) small;
      digits = fixed_only_digits (places_of (n % 1048576)) (nearest_in (10 ^ places_of (n % 1048576)) (n % 1048576)) (fraction_small (n % 1048576) small);
      read =
          let e : 1048576 * (n / 1048576) + real_decimals (fraction_digits (n % 1048576)) ≡ n = omega (arith, fraction_read (n % 1048576) small) in
          rw (e, lt-ltb n 2147483648 h);
    }

-- ---- no fewer decimals

power_small : (j : ℕ) → j < 7 → 10 ^ j ≤ 1000000
power_small zero h = omega arith
power_small (suc zero) h = omega arith
power_small (suc (suc zero)) h = omega arith
power_small (suc (suc (suc zero))) h = omega arith
power_small (suc (suc (suc (suc zero)))) h = omega arith
power_small (suc (suc (suc (suc (suc zero))))) h = omega arith
power_small (suc (suc (suc (suc (suc (suc zero)))))) h = omega arith
power_small (suc (suc (suc (suc (suc (suc (suc j))))))) h = absurd (omega arith)

pub power_most : (j : ℕ) → j ≤ 7 → 10 ^ j ≤ 10000000
power_most j h = by (less_or_not j 7)
  where
    by : (j < 7) ⊎ (7 ≤ j) → 10 ^ j ≤ 10000000
    by (inl l) = omega (arith, power_small j l)
    by (inr l) = let e : j ≡ 7 = omega arith in rw e (omega arith)

-- where units are coarser than 2 ^ -20 only the nearest can be read as a fraction, whole units aside
nearest_alone : (p g e : ℕ) → 1 ≤ p → p ≤ 1000000 → Within p g e → Within p (g % 1048576) (nearest_in p (g % 1048576))
nearest_alone p g e a b w =
    let y : g ≡ 1048576 * (g / 1048576) + g % 1048576 = omega arith in
    let x : g * p ≡ (1048576 * (g / 1048576) + g % 1048576) * p = ap (λ (i : ℕ). i * p) y in
    let t : 2 * (g * p) ≤ 2097152 * e + p = twice g w.low in
    let u : 2097152 * e < 2 * (g * p) + p = omega (arith, w.high) in
    let n : e ≡ nearest_in p (g % 1048576) + g / 1048576 * p = omega arith in
    record { low = back (g % 1048576) (omega arith); high = omega arith }
  where
    twice : (i : ℕ) → (2 * i - 1) * p ≤ 2097152 * e → 2 * (i * p) ≤ 2097152 * e + p
    twice zero l = omega arith
    twice (suc i) l = let y : 2 * suc i - 1 ≡ 2 * i + 1 = omega arith in let z = rw y at l in omega arith

    back : (i : ℕ) → 2 * (i * p) ≤ 2097152 * nearest_in p (g % 1048576) + p → (2 * i - 1) * p ≤ 2097152 * nearest_in p (g % 1048576)
    back zero l = omega arith
    back (suc i) l = let y : 2 * suc i - 1 ≡ 2 * i + 1 = omega arith in rw y (omega arith)

magnitude_sum : (n whole : ℕ) (bs : List ℕ) → real_magnitude whole bs ≡ some n → 1048576 * whole + real_decimals bs ≡ n
magnitude_sum n whole bs e = by (ltb (1048576 * whole + real_decimals bs) 2147483648) e
  where
    by : (t : Bool) → cond t (some (1048576 * whole + real_decimals bs)) none ≡ some n → 1048576 * whole + real_decimals bs ≡ n
    by true q = cc
    by false q = cc

pub real_fewest : RealFewest
real_fewest n whole bs one e = by (less_or_not (length bs) 7)
  where
    same : n % 1048576 ≡ real_decimals bs % 1048576
    same = let s = magnitude_sum n whole bs e in omega arith

    among : length bs < 7 → (length bs < places_of (n % 1048576)) ⊎ (places_of (n % 1048576) ≤ length bs) → places_of (n % 1048576) ≤ length bs
    among h (inl u) =
        let w : Within (10 ^ length bs) (real_decimals bs) (decimals_spelled bs) =
        let q = (reads_exactly bs (real_decimals bs) (omega arith)).0 refl in record { low = q.0; high = q.1 } in
        let v = nearest_alone (10 ^ length bs) (real_decimals bs) (decimals_spelled bs) (power_some (length bs)) (power_small (length bs) h) w in
        let v' : Within (10 ^ length bs) (n % 1048576) (nearest_in (10 ^ length bs) (n % 1048576)) = rw same v in
        absurd ((placed 6 1 (n % 1048576)).before (length bs) one u
        (within_reads (10 ^ length bs) (n % 1048576) (nearest_in (10 ^ length bs) (n % 1048576)) v'))
    among h (inr u) = u

    by : (length bs < 7) ⊎ (7 ≤ length bs) → places_of (n % 1048576) ≤ length bs
    by (inl h) = among h (less_or_not (length bs) (places_of (n % 1048576)))
    by (inr h) = omega (arith, (placed 6 1 (n % 1048576)).most)

-- ---- none nearer

apart_least : (p n d : ℕ) → apart p (n / 1048576 * p + nearest_in p (n % 1048576)) n ≤ apart p d n
apart_least p n d =
    let y : n ≡ 1048576 * (n / 1048576) + n % 1048576 = omega arith in
    let x : n * p ≡ (1048576 * (n / 1048576) + n % 1048576) * p = ap (λ (i : ℕ). i * p) y in
    omega arith

pub real_nearest : RealNearest
real_nearest n d = apart_least (10 ^ places_of (n % 1048576)) n d
