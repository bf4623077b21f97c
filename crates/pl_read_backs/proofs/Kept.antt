-- The indentation of what is written is good.
-- Assumes nothing.
use mathlib.Core.Path.{◌≡◌, refl, ap, sym, ◌∙◌}
use mathlib.Core.Bool.{Bool, true, false, cond, not}
use mathlib.Core.List.{List, [], ◌∷◌, ◌++◌, append_assoc}
use Prim.Native.Nat.{ℕ, zero, suc, ◌+◌, ◌/◌, ◌%◌, ◌<◌, ◌≤◌}
use native.Mathlib.Omega.{arith}
use lib.Dec.{leb, eqb}
use lib.IntN.{ℤ, pos, negsuc}
use lib.ListN.{length, get_or, replicate}
use borrow.Author.Tests.{leb-true, ne_eqb}
use Rattle.words.specs.Words.{word_of}
use Rattle.words.specs.Lists.{tabulate}
use Rattle.lang.specs.Every.{both}
use Rattle.lang.proofs.Every.{both_left, both_right}
use Rattle.lang.proofs.Table.{agree_below}
use Rattle.lang.specs.Operations.{advance, keeps_left, keeps_right, is_standard}
use Rattle.points.specs.Printing.{whole_text}
use Rattle.points.specs.Scanning.{only_digits}
use Rattle.points.proofs.Wholes.{whole_digits_lem}
use Rattle.property_lists.specs.RealTexts.{fraction_digits, magnitude_text, real_text}
use Rattle.property_lists.specs.Displays.{leading_octal, octal_char, line_end, label_line, boundary_label_line, lig_name, lig_line, krn_line, next_line, boundary_line}
use Rattle.property_lists.specs.Indents.{indents_by, indents_kept}
use Rattle.property_lists.proofs.RealTheorems.{real_read_back}
use Rattle.pl_read_backs.proofs.Values.{size_of}

-- ---- bytes within a line: no line feed and no parenthesis

abbrev plain_byte : ℕ → Bool
plain_byte b = both (not (eqb b 10)) (both (not (eqb b 40)) (not (eqb b 41)))

unfoldable pub plain_bytes : List ℕ → Bool
plain_bytes [] = true
plain_bytes (b ∷ bs) = both (plain_byte b) (plain_bytes bs)

pub plain_append : (xs ys : List ℕ) → plain_bytes xs ≡ true → plain_bytes ys ≡ true → plain_bytes (xs ++ ys) ≡ true
unfolding plain_bytes
plain_append [] ys a b = b
plain_append (x ∷ xs) ys a b = rw (both_left (plain_byte x) (plain_bytes xs) a) (plain_append xs ys (both_right (plain_byte x) (plain_bytes xs) a) b)

pub plain_digits : (xs : List ℕ) → only_digits xs ≡ true → plain_bytes xs ≡ true
unfolding plain_bytes only_digits
plain_digits [] e = refl
plain_digits (x ∷ xs) e =
    let d = both (leb 48 x) (leb x 57) in
    let l : 48 ≤ x = leb-true 48 x (both_left (leb 48 x) (leb x 57) (both_left d (only_digits xs) e)) in
    rw (ne_eqb x 10 (λ q. omega (arith, q)), ne_eqb x 40 (λ q. omega (arith, q)), ne_eqb x 41 (λ q. omega (arith, q)))
    (plain_digits xs (both_right d (only_digits xs) e))

-- they leave everything as it is
pub inside : (level good indent : ℕ) (xs r : List ℕ) → plain_bytes xs ≡ true →
    indents_kept (indents_by 1 0 level good indent) (xs ++ r) ≡ indents_kept (indents_by 1 0 level good indent) r
unfolding plain_bytes indents_kept
inside level good indent [] r e = refl
inside level good indent (x ∷ xs) r e =
    let p = both_left (plain_byte x) (plain_bytes xs) e in
    let a = both_left (not (eqb x 10)) (both (not (eqb x 40)) (not (eqb x 41))) p in
    let q = both_right (not (eqb x 10)) (both (not (eqb x 40)) (not (eqb x 41))) p in
    let b = both_left (not (eqb x 40)) (not (eqb x 41)) q in
    let c = both_right (not (eqb x 40)) (not (eqb x 41)) q in
    rw (not-true (eqb x 10) a, not-true (eqb x 40) b, not-true (eqb x 41) c) (inside level good indent xs r (both_right (plain_byte x) (plain_bytes xs) e))
  where
    not-true : (t : Bool) → not t ≡ true → t ≡ false
    not-true true h = let z : ◌≡◌ {A = ℕ} 0 1 = ap (λ (b : Bool). cond b 1 0) h in absurd (omega arith)
    not-true false h = refl

-- ---- lines of LIGTABLE: one parenthesis is open, and the indentation is not known yet or three blanks

pub record LevelOne (bs : List ℕ) : Type 0 where
  pub first : (good : ℕ) → indents_kept (indents_by 0 0 1 good 0) bs ≡ true
  pub later : (good : ℕ) → indents_kept (indents_by 0 0 1 good 3) bs ≡ true

pub line_kept : (xs r : List ℕ) → plain_bytes xs ≡ true → LevelOne r → LevelOne (32 ∷ 32 ∷ 32 ∷ 40 ∷ (xs ++ (41 ∷ 10 ∷ r)))
unfolding indents_kept
line_kept xs r e n =
    record {
      first = λ good. inside 2 1 3 xs (41 ∷ 10 ∷ r) e ∙ n.later 1;
      later = λ good. inside 2 (good + 1) 3 xs (41 ∷ 10 ∷ r) e ∙ n.later (good + 1);
    }

pub end_kept : LevelOne (32 ∷ 32 ∷ 32 ∷ line_end)
unfolding indents_kept
end_kept = record { first = λ good. refl; later = λ good. refl }

-- ---- the parts of lines

pub plain_char : (c : ℕ) → c < 256 → plain_bytes (octal_char c) ≡ true
unfolding plain_bytes tabulate
plain_char = agree_below (λ c. plain_bytes (octal_char c)) (λ c. true) 256 refl

pub plain_name : (op : ℕ) → op < 128 → plain_bytes (lig_name op) ≡ true
unfolding plain_bytes tabulate
plain_name = agree_below (λ op. plain_bytes (lig_name op)) (λ op. true) 128 refl

plain_size : (n : ℕ) → n < 2147483648 → plain_bytes (magnitude_text n) ≡ true
unfolding plain_bytes
plain_size n h =
    plain_append (whole_text (n / 1048576)) (46 ∷ fraction_digits (n % 1048576)) (plain_digits (whole_text (n / 1048576)) (whole_digits_lem (n / 1048576)))
    (plain_digits (fraction_digits (n % 1048576)) (real_read_back n h).digits)

pub plain_real : (z : ℤ) → size_of z < 2147483648 → plain_bytes (real_text z) ≡ true
unfolding plain_bytes
plain_real (pos n) h = plain_size n h
plain_real (negsuc n) h = plain_size (suc n) h

pub plain_whole : (n : ℕ) → plain_bytes (whole_text n) ≡ true
plain_whole n = plain_digits (whole_text n) (whole_digits_lem n)

-- a line whose bytes within are plain
pub whole_line : (xs r : List ℕ) → plain_bytes xs ≡ true → LevelOne r → LevelOne ((32 ∷ 32 ∷ 32 ∷ 40 ∷ (xs ++ line_end)) ++ r)
whole_line xs r e n = rw (append_assoc xs line_end r) (line_kept xs r e n)
