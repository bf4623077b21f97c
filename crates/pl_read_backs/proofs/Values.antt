-- Values as they are written, read again: characters and reals.
-- Assumes nothing.
use mathlib.Core.Path.{◌≡◌, refl, ap, sym, ◌∙◌}
use mathlib.Core.Bool.{Bool, true, false, cond, not}
use mathlib.Core.List.{List, [], ◌∷◌, ◌++◌, append_assoc}
use mathlib.Core.Logic.{◌⊎◌, inl, inr}
use mathlib.Core.Option.{Option, none, some}
use Prim.Native.Nat.{ℕ, zero, suc, ◌+◌, ◌-◌, ◌*◌, ◌/◌, ◌%◌, ◌^◌, ◌<◌, ◌≤◌}
use native.Mathlib.Omega.{arith}
use lib.Dec.{leb, ltb, eqb}
use lib.IntN.{ℤ, pos, negsuc}
use lib.ListN.{length}
use mir.Syntax.{w32}
use mir.Val.{SFits}
use borrow.Author.Tests.{leb-true, le-leb, lt-ltb, ne_eqb, eqb-false}
use Rattle.words.specs.Words.{word_of, number_of}
use Rattle.words.proofs.Bits.{number_word, word_lt, number_pos, number_neg}
use Rattle.words.proofs.Tests.{less_or_not}
use Rattle.lang.specs.Every.{both}
use Rattle.lang.proofs.Every.{both_left, both_right}
use Rattle.lang.proofs.Table.{agree_below}
use Rattle.words.specs.Lists.{tabulate}
use Rattle.points.specs.Printing.{whole_text}
use Rattle.points.specs.Scanning.{only_digits, digits_after}
use Rattle.points.proofs.Wholes.{whole_read, whole_digits_lem, whole_few}
use Rattle.property_lists.specs.Reals.{real_magnitude}
use Rattle.property_lists.specs.RealTexts.{fraction_digits, magnitude_text, real_text}
use Rattle.property_lists.specs.Displays.{octal_char, has_text}
use Rattle.property_lists.specs.Chars.{then_by, pass_over}
use Rattle.property_lists.specs.Values.{is_sign, byte_digits, byte_value, past_signs, whole_digits, figures, past_figures, bits_of, real_digits, real_value}
use Rattle.property_lists.proofs.RealTheorems.{real_read_back}

-- ---- a character, before a parenthesis and before a blank

pub char_before_paren : (r : List ℕ) (c : ℕ) → c < 256 → byte_value (octal_char c ++ (41 ∷ r)) ≡ some (c, 41 ∷ r)
unfolding pass_over byte_digits tabulate
char_before_paren r = agree_below (λ c. byte_value (octal_char c ++ (41 ∷ r))) (λ c. some (c, 41 ∷ r)) 256 refl

pub char_before_blank : (r : List ℕ) (c : ℕ) → c < 256 → byte_value (octal_char c ++ (32 ∷ r)) ≡ some (c, 32 ∷ r)
unfolding pass_over byte_digits tabulate
char_before_blank r = agree_below (λ c. byte_value (octal_char c ++ (32 ∷ r))) (λ c. some (c, 32 ∷ r)) 256 refl

-- ---- digits

pub figures_before : (xs r : List ℕ) → only_digits xs ≡ true → (figures (xs ++ (41 ∷ r)) ≡ xs) × (past_figures (xs ++ (41 ∷ r)) ≡ 41 ∷ r)
unfolding figures past_figures only_digits
figures_before [] r e = (refl, refl)
figures_before (x ∷ xs) r e =
    let d = both (leb 48 x) (leb x 57) in
    let f : both (leb 48 x) (leb x 57) ≡ true = both_left d (only_digits xs) e in
    let h = figures_before xs r (both_right d (only_digits xs) e) in
    (rw f (ap (λ (t : List ℕ). x ∷ t) h.0), rw f h.1)

after_least : (n : ℕ) (xs : List ℕ) → n ≤ digits_after n xs
unfolding digits_after
after_least n [] = omega arith
after_least n (x ∷ xs) = let h = after_least (10 * n + (x - 48)) xs in omega arith

pub whole_before : (n : ℕ) (xs r : List ℕ) → only_digits xs ≡ true → digits_after n xs < 2048 → whole_digits n (xs ++ (46 ∷ r)) ≡ some (digits_after n xs, 46 ∷ r)
unfolding whole_digits only_digits digits_after
whole_before n [] r e h = refl
whole_before n (x ∷ xs) r e h =
    let d = both (leb 48 x) (leb x 57) in
    let f : both (leb 48 x) (leb x 57) ≡ true = both_left d (only_digits xs) e in
    let l = after_least (10 * n + (x - 48)) xs in
    rw (f, lt-ltb (10 * n + (x - 48)) 2048 (omega arith)) (whole_before (10 * n + (x - 48)) xs r (both_right d (only_digits xs) e) h)

-- no sign in front of digits
no_sign : (m : ℕ) (xs r : List ℕ) → only_digits xs ≡ true → 1 ≤ length xs → past_signs false m (xs ++ r) ≡ some (m, xs ++ r)
unfolding past_signs only_digits
no_sign m [] r e h = absurd (omega arith)
no_sign m (x ∷ xs) r e h =
    let d = both (leb 48 x) (leb x 57) in
    let l : 48 ≤ x = leb-true 48 x (both_left (leb 48 x) (leb x 57) (both_left d (only_digits xs) e)) in
    rw (
      ne_eqb x 10 (λ q. omega (arith, q)),
      ne_eqb x 13 (λ q. omega (arith, q)),
      ne_eqb x 32 (λ q. omega (arith, q)),
      ne_eqb x 43 (λ q. omega (arith, q)),
      ne_eqb x 45 (λ q. omega (arith, q)),
    )

-- ---- a real

module _ (n : ℕ) (small : n < 2147483648) (r : List ℕ) where
  parted : magnitude_text n ++ (41 ∷ r) ≡ whole_text (n / 1048576) ++ (46 ∷ (fraction_digits (n % 1048576) ++ (41 ∷ r)))
  parted = append_assoc (whole_text (n / 1048576)) (46 ∷ fraction_digits (n % 1048576)) (41 ∷ r)

  digits_read : (m : ℕ) → real_digits (m, whole_text (n / 1048576) ++ (46 ∷ (fraction_digits (n % 1048576) ++ (41 ∷ r)))) ≡ some (bits_of m n, 41 ∷ r)
  digits_read m =
      let b = real_read_back n small in
      let f = figures_before (fraction_digits (n % 1048576)) r b.digits in
      let w : digits_after 0 (whole_text (n / 1048576)) ≡ n / 1048576 = whole_read (n / 1048576) (omega arith) in
      let l : digits_after 0 (whole_text (n / 1048576)) < 2048 = omega arith in
      rw (
        whole_before 0 (whole_text (n / 1048576)) (fraction_digits (n % 1048576) ++ (41 ∷ r)) (whole_digits_lem (n / 1048576)) l,
        w,
        f.0,
        f.1,
        b.read,
      )

  signed_read : (m : ℕ) → then_by (past_signs false m (magnitude_text n ++ (41 ∷ r))) real_digits ≡ some (bits_of m n, 41 ∷ r)
  signed_read m =
      let s = no_sign m (whole_text (n / 1048576)) (46 ∷ (fraction_digits (n % 1048576) ++ (41 ∷ r))) (whole_digits_lem (n / 1048576)) (whole_few (n / 1048576)).0 in
      rw (parted, s) (digits_read m)

-- the 32 bits that are read for a kern
abbrev pub bits_read : ℤ → ℕ
bits_read (pos n) = n
bits_read (negsuc n) = bits_of 1 (suc n)

abbrev pub size_of : ℤ → ℕ
size_of (pos n) = n
size_of (negsuc n) = suc n

pub real_read : (z : ℤ) → size_of z < 2147483648 → (r : List ℕ) → real_value (32 ∷ 82 ∷ 32 ∷ (real_text z ++ (41 ∷ r))) ≡ some (bits_read z, 41 ∷ r)
unfolding pass_over past_signs
real_read (pos n) h r = signed_read n h r 0
real_read (negsuc n) h r = signed_read (suc n) h r 1

pub bits_number : (z : ℤ) → size_of z < 2147483648 → number_of (bits_read z) ≡ z
bits_number (pos n) h = number_pos n h
bits_number (negsuc n) h =
    let e : (4294967296 - suc n) % 4294967296 ≡ 4294967296 - suc n = omega arith in
    let g : 2 ^ 32 - suc (4294967296 - suc n) ≡ n = omega arith in
    rw e (number_neg (4294967296 - suc n) (omega arith) ∙ ap negsuc g)

-- every i32 that has a text
pub has_size : (z : ℤ) → SFits w32 z → has_text z ≡ true → size_of z < 2147483648
has_size z f t = by z (number_word z f) (word_lt z f) (not-true' (eqb (word_of z) 2147483648) t)
  where
    not-true' : (b : Bool) → not b ≡ true → b ≡ false
    not-true' true e = let q : ◌≡◌ {A = ℕ} 0 1 = ap (λ (b : Bool). cond b 1 0) e in absurd (omega arith)
    not-true' false e = refl

    by : (y : ℤ) → number_of (word_of z) ≡ y → word_of z < 2 ^ 32 → eqb (word_of z) 2147483648 ≡ false → size_of y < 2147483648
    by y e l n = sized (less_or_not (word_of z) (2 ^ 31))
      where
        sized : (word_of z < 2 ^ 31) ⊎ (2 ^ 31 ≤ word_of z) → size_of y < 2147483648
        sized (inl h) = let g : y ≡ pos (word_of z) = sym e ∙ number_pos (word_of z) h in rw g h
        sized (inr h) =
            let g : y ≡ negsuc (2 ^ 32 - suc (word_of z)) = sym e ∙ number_neg (word_of z) h in
            let u : word_of z ≡ 2147483648 → ⊥ = eqb-false (word_of z) 2147483648 n in
            rw g (omega arith)
