-- A number that is written in a field is read from it, and so are the numbers of a line.
-- Assumes nothing.
use mathlib.Core.Path.{◌≡◌, refl, sym, ap, ◌∙◌, subst}
use mathlib.Core.Bool.{Bool, true, false, cond}
use mathlib.Core.List.{List, [], ◌∷◌, ◌++◌}
use mathlib.Core.Logic.{◌⊎◌, inl, inr}
use mathlib.Core.Option.{some, some-injective}
use Prim.Native.Nat.{ℕ, zero, suc, ◌+◌, ◌-◌, ◌*◌, ◌/◌, ◌%◌, ◌<◌, ◌≤◌}
use native.Mathlib.Omega.{arith}
use lib.IntN.{ℤ, pos, negsuc}
use lib.Dec.{ltb}
use lib.ListN.{length, drop, replicate, length-append, length-replicate}
use lib.Seq.{take_at, drop_at}
use borrow.Author.Tests.{lt-ltb, le-ltb, le-leb, ne_eqb, leb-true}
use Rattle.words.proofs.Tests.{less_or_not}
use Rattle.lang.proofs.Every.{both_left, both_right}
use Rattle.columns.specs.Numbers.{is_digit, more_digits, if_none, unsigned, with_sign, without_sign, read_field, digits, spelled, field_of}
use Rattle.columns.specs.Lines.{and_number, read_fields, fields_of}
use Rattle.columns.specs.Purpose.{is_i32, all_i32}
use Rattle.columns.proofs.Options.{cond_some}
use Rattle.columns.proofs.Digits.{limit, digit_is}

-- ---- digits

a_digit : (d : ℕ) → d < 10 → is_digit (48 + d) ≡ true
a_digit d h = rw (le-leb 48 (48 + d) (omega arith), le-leb (48 + d) 57 (omega arith))

-- one digit more at the end
more_last : (bs : List ℕ) (m n d : ℕ) → d < 10 → more_digits m bs ≡ some n → more_digits m (bs ++ ((48 + d) ∷ [])) ≡ some (10 * n + d)
unfolding more_digits
more_last [] m n d h e =
    let q : m ≡ n = some-injective m n e in
    let s : 10 * m + (48 + d - 48) ≡ 10 * n + d = omega arith in
    rw (a_digit d h) (ap some s)
more_last (b ∷ bs) m n d h e =
    let c = cond_some (is_digit b) (more_digits (10 * m + (b - 48)) bs) n e in
    rw c.0 (more_last bs (10 * m + (b - 48)) n d h c.1)

-- read with its first digit, which is not 0
record Read (bs : List ℕ) (n : ℕ) : Type 0 where
  first : ℕ
  others : List ℕ
  is : bs ≡ first ∷ others
  nonzero : (first ≡ 48 → ⊥)
  reads : more_digits 0 bs ≡ some n

one_read : (n : ℕ) → 0 < n → n < 10 → Read ((48 + n) ∷ []) n
unfolding more_digits
one_read n h l =
    let s : 10 * 0 + (48 + n - 48) ≡ n = omega arith in
    record { first = 48 + n; others = []; is = refl; nonzero = λ e. omega (arith, e); reads = rw (a_digit n l) (ap some s) }

last_read : (bs : List ℕ) (n d : ℕ) → d < 10 → Read bs n → Read (bs ++ ((48 + d) ∷ [])) (10 * n + d)
last_read bs n d h r =
    record {
      first = r.first;
      others = r.others ++ ((48 + d) ∷ []);
      is = ap (λ (l : List ℕ). l ++ ((48 + d) ∷ [])) r.is;
      nonzero = r.nonzero;
      reads = more_last bs 0 n d h r.reads;
    }

digits_read : (f n : ℕ) → 0 < n → n < limit f → Read (digits f n) n
unfolding digits limit
digits_read zero n h l = absurd (omega arith)
digits_read (suc f) n h l = by (less_or_not n 10) (λ s. digits_read f (n / 10) (omega arith) (omega arith))
  where
    by : (n < 10) ⊎ (10 ≤ n) → (10 ≤ n → Read (digits f (n / 10)) (n / 10)) → Read (digits (suc f) n) n
    by (inl s) k = rw (lt-ltb n 10 s) (one_read n h s)
    by (inr s) k =
        let e : 10 * (n / 10) + n % 10 ≡ n = omega arith in
        let r = last_read (digits f (n / 10)) (n / 10) (n % 10) (omega arith) (k s) in
        rw (le-ltb n 10 s) (subst (Read (digits f (n / 10) ++ ((48 + n % 10) ∷ []))) e r)

digits_few : (f n : ℕ) → length (digits f n) ≤ f
unfolding digits
digits_few zero n = omega arith
digits_few (suc f) n = by (ltb n 10) (digits_few f (n / 10))
  where
    by : (t : Bool) → length (digits f (n / 10)) ≤ f → length (cond t ((48 + n) ∷ []) (digits f (n / 10) ++ ((48 + n % 10) ∷ []))) ≤ suc f
    by true h = omega arith
    by false h = omega (arith, length-append (digits f (n / 10)) ((48 + n % 10) ∷ []))

-- ---- a number

unsigned_read : (bs : List ℕ) (n : ℕ) → Read bs n → unsigned bs ≡ some n
unsigned_read bs n r =
    ap unsigned r.is
    ∙ ap (λ (t : Bool). cond t (if_none r.others (some 0)) (more_digits 0 (r.first ∷ r.others))) (ne_eqb r.first 48 r.nonzero)
    ∙ ap (more_digits 0) (sym r.is) ∙ r.reads

-- its first byte is a digit
first_digit : (bs : List ℕ) (n : ℕ) (r : Read bs n) → is_digit r.first ≡ true
unfolding more_digits
first_digit bs n r =
    (cond_some (is_digit r.first) (more_digits (10 * 0 + (r.first - 48)) r.others) n (ap (more_digits 0) (sym r.is) ∙ r.reads)).0

positive_read : (bs : List ℕ) (n : ℕ) → Read bs n → n ≤ 2147483647 → read_field bs ≡ some (pos n)
unfolding read_field
positive_read bs n r h =
    let d = digit_is r.first (first_digit bs n r) in
    ap read_field r.is
    ∙ rw (ne_eqb r.first 32 (λ e. omega (arith, d.0, e)), ne_eqb r.first 45 (λ e. omega (arith, d.0, e)))
    (ap (λ (l : List ℕ). without_sign (unsigned l)) (sym r.is) ∙ ap without_sign (unsigned_read bs n r) ∙ rw (le-leb n 2147483647 h))

spelled_read : (z : ℤ) → is_i32 z ≡ true → read_field (spelled z) ≡ some z
unfolding read_field digits more_digits limit
spelled_read (pos zero) t = refl
spelled_read (pos (suc n)) t =
    positive_read (digits 10 (suc n)) (suc n) (digits_read 10 (suc n) (omega arith) (omega (arith, leb-true (suc n) 2147483647 t)))
    (leb-true (suc n) 2147483647 t)
spelled_read (negsuc n) t =
    let h = leb-true n 2147483647 t in
    ap with_sign (unsigned_read (digits 10 (suc n)) (suc n) (digits_read 10 (suc n) (omega arith) (omega arith))) ∙ rw t

-- ---- a field

blanks_read : (j : ℕ) (bs : List ℕ) → read_field (replicate j 32 ++ bs) ≡ read_field bs
unfolding read_field
blanks_read zero bs = refl
blanks_read (suc j) bs = blanks_read j bs

spelled_few : (z : ℤ) → length (spelled z) ≤ 11
spelled_few (pos n) = omega (arith, digits_few 10 n)
spelled_few (negsuc n) = omega (arith, digits_few 10 (suc n))

pub field_long : (z : ℤ) → length (field_of z) ≡ 12
field_long z =
    omega (
      arith,
      length-append (replicate {A = ℕ} (12 - length (spelled z)) 32) (spelled z),
      length-replicate {A = ℕ} (12 - length (spelled z)) 32,
      spelled_few z,
    )

pub field_read : (z : ℤ) → is_i32 z ≡ true → read_field (field_of z) ≡ some z
field_read z t = blanks_read (12 - length (spelled z)) (spelled z) ∙ spelled_read z t

-- ---- the fields of a line

pub fields_long : (zs : List ℤ) → length (fields_of zs) ≡ 12 * length zs
unfolding fields_of
fields_long [] = refl
fields_long (z ∷ zs) = omega (arith, length-append (field_of z) (fields_of zs), field_long z, fields_long zs)

pub fields_read : (zs : List ℤ) → all_i32 zs ≡ true → read_fields (length zs) (fields_of zs) ≡ some zs
unfolding read_fields fields_of all_i32
fields_read [] t = refl
fields_read (z ∷ zs) t =
    let a = both_left (is_i32 z) (all_i32 zs) t in
    let b = both_right (is_i32 z) (all_i32 zs) t in
    ap (λ (l : List ℕ). and_number (read_field l) (read_fields (length zs) (drop 12 (field_of z ++ fields_of zs))))
    (take_at (field_of z) (fields_of zs) 12 (field_long z))
    ∙ ap (λ (l : List ℕ). and_number (read_field (field_of z)) (read_fields (length zs) l)) (drop_at (field_of z) (fields_of zs) 12 (field_long z))
    ∙ (λ i. and_number (field_read z a i) (fields_read zs b i))
