-- Whole points in decimal, and lists of digits.
-- Assumes nothing.
use mathlib.Core.Path.{◌≡◌, refl, ap, ◌∙◌}
use mathlib.Core.Bool.{Bool, true, false, cond}
use mathlib.Core.List.{List, [], ◌∷◌, ◌++◌}
use mathlib.Core.Logic.{◌⊎◌, inl, inr}
use Prim.Native.Nat.{ℕ, suc, ◌+◌, ◌-◌, ◌*◌, ◌/◌, ◌%◌, ◌<◌, ◌≤◌}
use native.Mathlib.Omega.{arith}
use lib.Dec.{leb, eqb}
use lib.ListN.{length, length-append}
use borrow.Author.Tests.{le-leb, leb-true, eq-eqb, ne_eqb}
use Rattle.words.proofs.Tests.{same_or_not}
use Rattle.lang.specs.Every.{both}
use Rattle.lang.proofs.Every.{both_left, both_right}
use Rattle.points.specs.Printing.{leading_digit, whole_text}
use Rattle.points.specs.Scanning.{point_place, only_digits, digits_after}

-- ---- lists of digits

pub after_append : (n : ℕ) (xs ys : List ℕ) → digits_after n (xs ++ ys) ≡ digits_after (digits_after n xs) ys
unfolding digits_after
after_append n [] ys = refl
after_append n (x ∷ xs) ys = after_append (10 * n + (x - 48)) xs ys

pub digits_append : (xs ys : List ℕ) → only_digits xs ≡ true → only_digits ys ≡ true → only_digits (xs ++ ys) ≡ true
unfolding only_digits
digits_append [] ys a b = b
digits_append (x ∷ xs) ys a b =
    let d = both (leb 48 x) (leb x 57) in
    rw (both_left d (only_digits xs) a) (digits_append xs ys (both_right d (only_digits xs) a) b)

-- the first point behind digits
pub point_behind : (xs ys : List ℕ) → only_digits xs ≡ true → point_place (xs ++ (46 ∷ ys)) ≡ length xs
unfolding only_digits point_place
point_behind [] ys a = refl
point_behind (x ∷ xs) ys a =
    let d = both (leb 48 x) (leb x 57) in
    let h = leb-true 48 x (both_left (leb 48 x) (leb x 57) (both_left d (only_digits xs) a)) in
    rw (ne_eqb x 46 (λ e. omega (arith, h, e))) (ap suc (point_behind xs ys (both_right d (only_digits xs) a)))

-- ---- a digit, and one that is left out where it is 0 in front

one_digit : (n : ℕ) → only_digits ((48 + n % 10) ∷ []) ≡ true
unfolding only_digits
one_digit n = rw (le-leb 48 (48 + n % 10) (omega arith), le-leb (48 + n % 10) 57 (omega arith))

one_after : (n : ℕ) → digits_after (n / 10) ((48 + n % 10) ∷ []) ≡ n
unfolding digits_after
one_after n = omega arith

leading_digits : (n : ℕ) → only_digits (leading_digit n) ≡ true
unfolding only_digits
leading_digits n = by (same_or_not n 0)
  where
    by : (n ≡ 0) ⊎ (n ≡ 0 → ⊥) → only_digits (leading_digit n) ≡ true
    by (inl e) = rw (eq-eqb n 0 e)
    by (inr h) = rw (ne_eqb n 0 h) (one_digit n)

leading_after : (n : ℕ) → digits_after (n / 10) (leading_digit n) ≡ n
unfolding digits_after
leading_after n = by (same_or_not n 0)
  where
    by : (n ≡ 0) ⊎ (n ≡ 0 → ⊥) → digits_after (n / 10) (leading_digit n) ≡ n
    by (inl e) = rw (eq-eqb n 0 e) (omega arith)
    by (inr h) = rw (ne_eqb n 0 h) (one_after n)

leading_few : (n : ℕ) → length (leading_digit n) ≤ 1
leading_few n = by (eqb n 0)
  where
    by : (t : Bool) → length (cond t [] ((48 + n % 10) ∷ [])) ≤ 1
    by true = omega arith
    by false = omega arith

-- ---- a whole number

-- .. behind a digit in front
behind : (m n : ℕ) (xs : List ℕ) → m ≡ n / 10 → digits_after m (leading_digit n ++ xs) ≡ digits_after n xs
behind m n xs e = rw e (after_append (n / 10) (leading_digit n) xs ∙ ap (λ (k : ℕ). digits_after k xs) (leading_after n))

pub whole_read : (n : ℕ) → n < 100000 → digits_after 0 (whole_text n) ≡ n
whole_read n h =
    behind 0 (n / 10 / 10 / 10 / 10) _ (omega arith)
    ∙ behind (n / 10 / 10 / 10 / 10) (n / 10 / 10 / 10) _ refl
    ∙ behind (n / 10 / 10 / 10) (n / 10 / 10) _ refl
    ∙ behind (n / 10 / 10) (n / 10) _ refl
    ∙ one_after n

pub whole_digits_lem : (n : ℕ) → only_digits (whole_text n) ≡ true
whole_digits_lem n =
    digits_append (leading_digit (n / 10 / 10 / 10 / 10)) _ (leading_digits (n / 10 / 10 / 10 / 10))
    (digits_append (leading_digit (n / 10 / 10 / 10)) _ (leading_digits (n / 10 / 10 / 10))
    (digits_append (leading_digit (n / 10 / 10)) _ (leading_digits (n / 10 / 10))
    (digits_append (leading_digit (n / 10)) _ (leading_digits (n / 10)) (one_digit n))))

pub whole_few : (n : ℕ) → (1 ≤ length (whole_text n)) × (length (whole_text n) ≤ 5)
whole_few n =
    simp length-append (
      omega arith,
      omega (arith, leading_few (n / 10 / 10 / 10 / 10), leading_few (n / 10 / 10 / 10), leading_few (n / 10 / 10), leading_few (n / 10)),
    )
