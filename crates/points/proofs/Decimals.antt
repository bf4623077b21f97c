-- The decimals of TeX 103, one by one, and what they come to: the number that they were printed for.
-- Assumes nothing.
use mathlib.Core.Path.{◌≡◌, refl, sym, ◌∙◌}
use mathlib.Core.Bool.{Bool, true, false, cond}
use mathlib.Core.List.{List, [], ◌∷◌}
use mathlib.Core.Logic.{◌⊎◌, inl, inr}
use Prim.Native.Nat.{ℕ, zero, suc, ◌+◌, ◌*◌, ◌/◌, ◌%◌, ◌<◌, ◌≤◌}
use native.Mathlib.Omega.{arith}
use lib.Dec.{leb}
use lib.ListN.{length}
use borrow.Author.Tests.{le-leb, lt-leb, le-ltb, lt-ltb}
use Rattle.words.proofs.Tests.{less_or_not}
use Rattle.points.specs.Printing.{last_rounded, after_digit, decimals_from, decimals_of}
use Rattle.points.specs.Scanning.{only_digits, half_scaled, round_decimals}

-- ---- one digit

pub decimals_last : (f delta s : ℕ) → after_digit delta s ≤ 10 * delta → decimals_from (suc f) delta s ≡ (48 + last_rounded delta s / 65536) ∷ []
unfolding decimals_from
decimals_last f delta s h = rw (le-leb (after_digit delta s) (10 * delta) h)

pub decimals_more : (f delta s : ℕ) → 10 * delta < after_digit delta s →
    decimals_from (suc f) delta s ≡ (48 + last_rounded delta s / 65536) ∷ decimals_from f (10 * delta) (after_digit delta s)
unfolding decimals_from
decimals_more f delta s h = rw (lt-leb (after_digit delta s) (10 * delta) h)

-- before the last digit nothing is rounded
pub unrounded : (delta s : ℕ) → delta ≤ 65536 → last_rounded delta s ≡ s
unrounded delta s h = rw (le-ltb 65536 delta h)

pub rounded_small : (delta s : ℕ) → last_rounded delta s ≤ s
rounded_small delta s = by (less_or_not 65536 delta)
  where
    by : (65536 < delta) ⊎ (delta ≤ 65536) → last_rounded delta s ≤ s
    by (inl h) = rw (lt-ltb 65536 delta h) (omega arith)
    by (inr h) = rw (le-ltb 65536 delta h) (omega arith)

-- ---- a fifth digit is the last

same_step : (f g delta s : ℕ) → ((t : ℕ) → decimals_from f (10 * delta) t ≡ decimals_from g (10 * delta) t) →
    decimals_from (suc f) delta s ≡ decimals_from (suc g) delta s
unfolding decimals_from
same_step f g delta s e = rw (e (after_digit delta s))

pub fifth_last : (s : ℕ) → after_digit 100000 s ≤ 1000000
fifth_last s = omega arith

pub enough : (f s : ℕ) → decimals_from (suc (suc (suc (suc (suc f))))) 10 s ≡ decimals_from 5 10 s
enough f s =
    same_step (suc (suc (suc (suc f)))) 4 10 s (λ t. same_step (suc (suc (suc f))) 3 100 t (λ u. same_step (suc (suc f)) 2 1000 u (λ v.
    same_step (suc f) 1 10000 v (λ w. decimals_last f 100000 w (fifth_last w) ∙ sym (decimals_last 0 100000 w (fifth_last w))))))

-- ---- what the decimals come to

-- decimals are within delta of s, in tenths of 65,536ths (the invariant that TeX 103 tells of)
record InDelta (delta s : ℕ) (bs : List ℕ) : Type 0 where
  low : s ≤ 5 * half_scaled bs + delta
  high : 5 * half_scaled bs < s

-- the fifth, rounded
within_fifth : (s : ℕ) → 17232 ≤ s → InDelta 100000 s (decimals_from 1 100000 s)
unfolding half_scaled
within_fifth s h = rw (decimals_last 0 100000 s (fifth_last s)) (record { low = omega arith; high = omega arith })

-- one before it, where something is left
module _ (f delta s : ℕ) (small : delta ≤ 65536) (d₅ : delta % 5 ≡ 0) (s₅ : s % 5 ≡ 0) (some_left : 0 < s % 65536) where
  digit_within : (bs : List ℕ) → InDelta (10 * delta) (10 * (s % 65536)) bs → InDelta delta s ((48 + s / 65536) ∷ bs)
  unfolding half_scaled
  digit_within bs w = record { low = omega (arith, w.low); high = omega (arith, w.high) }

  none_within : 10 * (s % 65536) ≤ 10 * delta → InDelta (10 * delta) (10 * (s % 65536)) []
  unfolding half_scaled
  none_within h = record { low = omega arith; high = omega arith }

  within_step : (10 * delta < 10 * (s % 65536) → InDelta (10 * delta) (10 * (s % 65536)) (decimals_from f (10 * delta) (10 * (s % 65536)))) →
      InDelta delta s (decimals_from (suc f) delta s)
  within_step next = by (less_or_not (10 * delta) (10 * (s % 65536)))
    where
      is : last_rounded delta s ≡ s
      is = unrounded delta s small

      by : (10 * delta < 10 * (s % 65536)) ⊎ (10 * (s % 65536) ≤ 10 * delta) → InDelta delta s (decimals_from (suc f) delta s)
      by (inl h) = rw (decimals_more f delta s (rw is h), is) (digit_within _ (next h))
      by (inr h) = rw (decimals_last f delta s (rw is h), is) (digit_within [] (none_within h))

-- what is left after k digits is an odd multiple of 2 ^ k, so it is never 0
odd_4 : (x k : ℕ) → x ≡ 4 * k + 2 → x % 4 ≡ 2
odd_4 x k e = omega arith

odd_8 : (x k : ℕ) → x ≡ 8 * k + 4 → x % 8 ≡ 4
odd_8 x k e = omega arith

odd_16 : (x k : ℕ) → x ≡ 16 * k + 8 → x % 16 ≡ 8
odd_16 x k e = omega arith

left_1 : (r q : ℕ) → r ≡ 2 * q + 1 → 10 * r % 4 ≡ 2
left_1 r q e = odd_4 (10 * r) (5 * q + 2) (omega arith)

left_2 : (r q : ℕ) → r ≡ 4 * q + 2 → 10 * r % 8 ≡ 4
left_2 r q e = odd_8 (10 * r) (5 * q + 2) (omega arith)

left_3 : (r q : ℕ) → r ≡ 8 * q + 4 → 10 * r % 16 ≡ 8
left_3 r q e = odd_16 (10 * r) (5 * q + 2) (omega arith)

-- each of the five
within_4 : (s : ℕ) → s % 5 ≡ 0 → s % 16 ≡ 8 → InDelta 10000 s (decimals_from 2 10000 s)
within_4 s a b =
    within_step 1 10000 s (omega arith) refl a (omega arith)
    (λ h. within_fifth (10 * (s % 65536)) (omega arith))

within_3 : (s : ℕ) → s % 5 ≡ 0 → s % 8 ≡ 4 → InDelta 1000 s (decimals_from 3 1000 s)
within_3 s a b =
    within_step 2 1000 s (omega arith) refl a (omega arith)
    (λ h. within_4 (10 * (s % 65536)) (omega arith) (left_3 (s % 65536) (s % 65536 / 8) (omega arith)))

within_2 : (s : ℕ) → s % 5 ≡ 0 → s % 4 ≡ 2 → InDelta 100 s (decimals_from 4 100 s)
within_2 s a b =
    within_step 3 100 s (omega arith) refl a (omega arith)
    (λ h. within_3 (10 * (s % 65536)) (omega arith) (left_2 (s % 65536) (s % 65536 / 4) (omega arith)))

within_1 : (s : ℕ) → s % 5 ≡ 0 → s % 2 ≡ 1 → InDelta 10 s (decimals_from 5 10 s)
within_1 s a b =
    within_step 4 10 s (omega arith) refl a (omega arith)
    (λ h. within_2 (10 * (s % 65536)) (omega arith) (left_1 (s % 65536) (s % 65536 / 2) (omega arith)))

-- read and rounded they are the part that they were printed for
pub decimals_read : (part : ℕ) → round_decimals (decimals_of part) ≡ part
decimals_read part =
    let w = within_1 (10 * part + 5) (omega arith) (omega arith) in
    omega (arith, w.low, w.high)

-- ---- their shape

-- digits, since what is left is below ten points
pub decimals_digits : (f delta s : ℕ) → s < 655360 → only_digits (decimals_from f delta s) ≡ true
unfolding only_digits decimals_from
decimals_digits zero delta s h = refl
decimals_digits (suc f) delta s h =
    let small = rounded_small delta s in
    rw (le-leb 48 (48 + last_rounded delta s / 65536) (omega arith), le-leb (48 + last_rounded delta s / 65536) 57 (omega arith))
    (by (leb (after_digit delta s) (10 * delta)) (decimals_digits f (10 * delta) (after_digit delta s) (omega arith)))
  where
    by : (t : Bool) → only_digits (decimals_from f (10 * delta) (after_digit delta s)) ≡ true →
        only_digits (cond t [] (decimals_from f (10 * delta) (after_digit delta s))) ≡ true
    by true e = refl
    by false e = e

-- at most as many as there may be, and one at least
pub decimals_few : (f delta s : ℕ) → length (decimals_from f delta s) ≤ f
unfolding decimals_from
decimals_few zero delta s = omega arith
decimals_few (suc f) delta s = by (leb (after_digit delta s) (10 * delta)) (decimals_few f (10 * delta) (after_digit delta s))
  where
    by : (t : Bool) → length (decimals_from f (10 * delta) (after_digit delta s)) ≤ f →
        suc (length (cond t [] (decimals_from f (10 * delta) (after_digit delta s)))) ≤ suc f
    by true h = omega arith
    by false h = omega arith

pub decimals_some : (f delta s : ℕ) → 1 ≤ length (decimals_from (suc f) delta s)
unfolding decimals_from
decimals_some f delta s = omega arith
