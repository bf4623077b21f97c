-- The loop over decimals, and their digits.
-- Assumes nothing.
use mathlib.Core.Path.{◌≡◌, refl, ap, sym, ◌∙◌}
use mathlib.Core.Bool.{Bool, true, false, cond}
use mathlib.Core.List.{List, [], ◌∷◌, ◌++◌, append-nil, append_assoc}
use Prim.Native.Nat.{ℕ, zero, suc, ◌+◌, ◌-◌, ◌*◌, ◌/◌, ◌%◌, ◌^◌, ◌<◌, ◌≤◌, min}
use native.Mathlib.Nat.{mul-le-mul_right, pow-succ', div-lt_iff_lt-mul, mod-lt}
use native.Mathlib.Omega.{arith}
use lib.Dec.{leb, ltb}
use lib.ListN.{length}
use borrow.Author.Tests.{le-leb, lt-leb, le-ltb, lt-ltb}
use Rattle.property_lists.specs.Putting.{PutsCounted}
use Rattle.property_lists.specs.RealTexts.{nearest_in, reads_as, places_from, places_of, fixed_digits, fraction_digits}
use Rattle.property_lists.proofs.Putting.{counted_none, counted_more}
use Rattle.property_lists.proofs.RealDigits.{power_some}
use Rattle.property_lists.proofs.RealTheorems.{power_most, places_few, fraction_small}

-- ---- sizes

pub product_fits : (f p : ℕ) → f < 1048576 → p ≤ 10000000 → 2 * f * p ≤ 2097150 * p
product_fits f p h l = mul-le-mul_right p (let e : 2 * f ≤ 2097150 = omega arith in e)

pub less_fits : (f p : ℕ) → f < 1048576 → (2 * f - 1) * p ≤ 2097150 * p
less_fits f p h = mul-le-mul_right p (let e : 2 * f - 1 ≤ 2097150 = omega arith in e)

pub nearest_fits : (p f : ℕ) → f < 1048576 → p ≤ 10000000 → nearest_in p f ≤ 10000000
nearest_fits p f h l = omega (arith, product_fits f p h l)

-- ---- the test

module _ (p f d : ℕ) where
  pub reads_none : f ≡ 0 → ltb (2097152 * d) p ≡ reads_as p f d
  reads_none e =
      let z : (2 * 0 - 1) * p ≤ 2097152 * d = omega arith in
      rw (e, le-leb ((2 * 0 - 1) * p) (2097152 * d) z) (ap (λ (n : ℕ). ltb (2097152 * d) n) (let g : p ≡ (2 * 0 + 1) * p = omega arith in g))

  pub reads_some : (2 * f - 1) * p ≤ 2097152 * d → ltb (2097152 * d) ((2 * f + 1) * p) ≡ reads_as p f d
  reads_some h = rw (le-leb ((2 * f - 1) * p) (2097152 * d) h)

  pub reads_below : 2097152 * d < (2 * f - 1) * p → false ≡ reads_as p f d
  reads_below h = rw (lt-leb ((2 * f - 1) * p) (2097152 * d) h)

-- ---- how many decimals

-- none below `count` is read back
pub record Trying (f count power : ℕ) : Type 0 where
  pub left : ℕ
  pub few : count + left ≡ 7
  pub some_tried : 1 ≤ count
  pub places : places_of f ≡ places_from left count f
  pub power_is : power ≡ 10 ^ count
  pub small : power * 10 ^ left ≡ 10000000

pub trying_first : (f : ℕ) → Trying f 1 10
trying_first f = record { left = 6; few = refl; some_tried = omega arith; places = refl; power_is = refl; small = refl }

module _ {f count power : ℕ} (t : Trying f count power) where
  pub trying_power : power ≤ 10000000
  trying_power =
      let a : 1 * power ≤ 10 ^ t.left * power = mul-le-mul_right power (power_some t.left) in
      omega (arith, t.small)

  pub trying_found : {b : Bool} → count < 7 → b ≡ reads_as power f (nearest_in power f) → b ≡ true →
      (count ≡ places_of f) × (power ≡ 10 ^ places_of f)
  unfolding places_from
  trying_found {b} h e g = by t.left t.few t.places
    where
      by : (n : ℕ) → count + n ≡ 7 → places_of f ≡ places_from n count f → (count ≡ places_of f) × (power ≡ 10 ^ places_of f)
      by zero w p = absurd (omega arith)
      by (suc n) w p =
          let r : reads_as (10 ^ count) f (nearest_in (10 ^ count) f) ≡ true = rw t.power_is at (sym e ∙ g) in
          let q : places_of f ≡ count = p ∙ ap (λ (b : Bool). cond b count (places_from n (suc count) f)) r in
          (sym q, rw q t.power_is)

  pub trying_next : {b : Bool} → count < 7 → b ≡ reads_as power f (nearest_in power f) → b ≡ false → Trying f (count + 1) (10 * power)
  unfolding places_from
  trying_next {b} h e g = by t.left t.few t.places t.small
    where
      by : (n : ℕ) → count + n ≡ 7 → places_of f ≡ places_from n count f → power * 10 ^ n ≡ 10000000 → Trying f (count + 1) (10 * power)
      by zero w p z = absurd (omega arith)
      by (suc n) w p z =
          let r : reads_as (10 ^ count) f (nearest_in (10 ^ count) f) ≡ false = rw t.power_is at (sym e ∙ g) in
          let s : count + 1 ≡ suc count = omega arith in
          record {
            left = n;
            few = omega arith;
            some_tried = omega arith;
            places = p ∙ ap (λ (b : Bool). cond b count (places_from n (suc count) f)) r ∙ ap (λ (k : ℕ). places_from n k f) (sym s);
            power_is = rw (s, pow-succ' 10 count) (ap (λ (q : ℕ). 10 * q) t.power_is);
            small = let y : power * (10 * 10 ^ n) ≡ 10000000 = rw (pow-succ' 10 n) at z in omega arith;
          }

  pub trying_last : 7 ≤ count → (count ≡ places_of f) × (power ≡ 10 ^ places_of f)
  unfolding places_from
  trying_last h = by t.left t.few t.places
    where
      by : (n : ℕ) → count + n ≡ 7 → places_of f ≡ places_from n count f → (count ≡ places_of f) × (power ≡ 10 ^ places_of f)
      by zero w p = (sym p, rw p t.power_is)
      by (suc n) w p = absurd (omega arith)

-- the test of the nearest as it was computed
pub read_there : (f p : ℕ) {d : ℕ} {b : Bool} → d ≡ nearest_in p f → b ≡ reads_as p f d → b ≡ reads_as p f (nearest_in p f)
read_there f p e g = g ∙ ap (reads_as p f) e

-- a power of the places, and the nearest in it
pub places_power : (f : ℕ) {power : ℕ} → power ≡ 10 ^ places_of f → power ≤ 10000000
places_power f e =
    let l = places_few f in
    rw e (power_most (places_of f) l)

pub places_small : (f : ℕ) {count power d : ℕ} → f < 1048576 → count ≡ places_of f → power ≡ 10 ^ places_of f → d ≡ nearest_in power f →
    (power ≡ 10 ^ count) × (d < power)
places_small f h c p e = (p ∙ ap (λ (k : ℕ). 10 ^ k) (sym c), rw (e, p) (fraction_small f h))

pub fraction_put : (f : ℕ) {count power d : ℕ} {out : List ℕ} {at r : ℕ} {out' : List ℕ} → count ≡ places_of f → power ≡ 10 ^ places_of f →
    d ≡ nearest_in power f → PutsCounted out at (fixed_digits count d) r out' → PutsCounted out at (fraction_digits f) r out'
fraction_put f {count} {power} {d} {out} {at} {r} {out'} c p e q =
    let g : d ≡ nearest_in (10 ^ places_of f) f = e ∙ ap (λ (n : ℕ). nearest_in n f) p in
    rw (c, g) at q

-- ---- the digits

-- `left` digits are still to be put: those of `rest`
pub record DigitTurn (out₀ : List ℕ) (at count d : ℕ) (out : List ℕ) (next left unit rest : ℕ) : Type 0 where
  pub done : List ℕ
  pub text : fixed_digits count d ≡ done ++ fixed_digits left rest
  pub put : PutsCounted out₀ at done next out
  pub unit_is : unit ≡ 10 ^ left
  pub small : rest < unit

pub digits_start : (out₀ : List ℕ) (at count power d : ℕ) {r : ℕ} → r ≡ min at (length out₀ + 1) → power ≡ 10 ^ count → d < power →
    DigitTurn out₀ at count d out₀ r count power d
digits_start out₀ at count power d e p h =
    record { done = []; text = refl; put = counted_none out₀ at e; unit_is = p; small = h }

module _ {out₀ : List ℕ} {at count d : ℕ} {out : List ℕ} {next left unit rest : ℕ} (t : DigitTurn out₀ at count d out next left unit rest) where
  -- a tenth of the unit
  pub tenth_some : 0 < left → 0 < unit / 10
  tenth_some h = by left h t.unit_is
    where
      by : (k : ℕ) → 0 < k → unit ≡ 10 ^ k → 0 < unit / 10
      by zero h e = absurd (omega arith)
      by (suc k) h e = let g : unit ≡ 10 * 10 ^ k = rw (pow-succ' 10 k) at e in omega (arith, power_some k)

  tenth_whole : 0 < left → unit ≡ 10 * (unit / 10)
  tenth_whole h = by left h t.unit_is
    where
      by : (k : ℕ) → 0 < k → unit ≡ 10 ^ k → unit ≡ 10 * (unit / 10)
      by zero h e = absurd (omega arith)
      by (suc k) h e = let g : unit ≡ 10 * 10 ^ k = rw (pow-succ' 10 k) at e in omega arith

  pub digit_small : 0 < left → rest / (unit / 10) < 10
  digit_small h =
      (div-lt_iff_lt-mul {k = unit / 10} {x = rest} {y = 10} (tenth_some h)).1
      (let g : rest < 10 * (unit / 10) = omega (arith, t.small, tenth_whole h) in g)

  pub digit_more : {r : ℕ} {out' : List ℕ} → 0 < left → PutsCounted out next ((48 + rest / (unit / 10)) ∷ []) r out' →
      DigitTurn out₀ at count d out' r (left - 1) (unit / 10) (rest % (unit / 10))
  unfolding fixed_digits
  digit_more {r} {out'} h p = by left h t.unit_is t.text
    where
      b : ℕ
      b = 48 + rest / (unit / 10)

      by : (k : ℕ) → 0 < k → unit ≡ 10 ^ k → fixed_digits count d ≡ t.done ++ fixed_digits k rest →
          DigitTurn out₀ at count d out' r (k - 1) (unit / 10) (rest % (unit / 10))
      by zero h e x = absurd (omega arith)
      by (suc k) h e x =
          let g : unit ≡ 10 * 10 ^ k = rw (pow-succ' 10 k) at e in
          let u : unit / 10 ≡ 10 ^ k = omega arith in
          let s : suc k - 1 ≡ k = omega arith in
          rw s
          (record {
            done = t.done ++ ((48 + rest / (unit / 10)) ∷ []);
            text =
                x ∙ rw u (sym (append_assoc t.done ((48 + rest / 10 ^ k) ∷ []) (fixed_digits k (rest % 10 ^ k))));
            put = counted_more t.put p;
            unit_is = u;
            small = mod-lt rest (rw u (power_some k));
          })

  pub digits_end : left ≤ 0 → PutsCounted out₀ at (fixed_digits count d) next out
  unfolding fixed_digits
  digits_end h = by left h t.text
    where
      by : (k : ℕ) → k ≤ 0 → fixed_digits count d ≡ t.done ++ fixed_digits k rest → PutsCounted out₀ at (fixed_digits count d) next out
      by zero h x = let y : fixed_digits count d ≡ t.done = x ∙ append-nil t.done in rw y t.put
      by (suc k) h x = absurd (omega arith)
