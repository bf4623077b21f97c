-- What stands in a field after its blanks: a sign, and digits one by one.
-- Assumes nothing.
use mathlib.Core.Path.{◌≡◌, refl, sym, ap, subst, ◌∙◌}
use mathlib.Core.Bool.{cond}
use mathlib.Core.List.{List, [], ◌∷◌}
use mathlib.Core.Logic.{◌⊎◌, inl, inr}
use mathlib.Core.Option.{none, some}
use Prim.Native.Nat.{ℕ, zero, suc, ◌+◌, ◌-◌, ◌*◌, ◌^◌, ◌<◌, ◌≤◌}
use native.Mathlib.Nat.{eq-or-lt_of_le}
use native.Mathlib.Numerals.{add-one}
use native.Mathlib.Omega.{arith}
use lib.IntN.{ℤ, negsuc}
use lib.ListN.{length, get_or}
use lib.Seq.{slice, slice-cons, slice_empty}
use borrow.Author.Tests.{le-leb, lt-leb, ne_eqb}
use Rattle.words.specs.Words.{word_of, number_of}
use Rattle.words.proofs.Bits.{number_word, number_fits, number_pos, number_neg}
use Rattle.lang.specs.Answers.{reply_of}
use Rattle.columns.specs.Numbers.{is_digit, more_digits, unsigned, with_sign, without_sign, read_field}
use Rattle.columns.specs.Scanned.{number_reply}
use Rattle.columns.proofs.Digits.{limit}
use Rattle.text_fields.specs.declared.numbers.Decimal.{Decimal}
use Rattle.text_fields.specs.declared.numbers.Decimal.TheVariants as decimal
use Rattle.text_fields.specs.Steps.{digits_of}

-- ---- an i32 of its digits' value

signed_is : (n : ℕ) → (n ≡ 0 → ⊥) → n ≤ 2147483648 → with_sign (some n) ≡ some (number_of (4294967296 - n))
signed_is zero z h = absurd (z refl)
signed_is (suc m) z h =
    let e : 2 ^ 32 - suc (4294967296 - suc m) ≡ m = omega arith in
    rw (le-leb m 2147483647 (omega arith), number_neg (4294967296 - suc m) (omega arith)) (ap (λ (k : ℕ). some (negsuc k)) (sym e))

signed_beyond : (n : ℕ) → 2147483648 < n → with_sign (some n) ≡ none
signed_beyond zero h = absurd (omega arith)
signed_beyond (suc m) h = rw (lt-leb m 2147483647 (omega arith))

plain_is : (n : ℕ) → n ≤ 2147483647 → without_sign (some n) ≡ some (number_of n)
plain_is n h = rw (le-leb n 2147483647 h, number_pos n (omega arith))

plain_beyond : (n : ℕ) → 2147483647 < n → without_sign (some n) ≡ none
plain_beyond n h = rw (lt-leb n 2147483647 h)

-- a number passed on is itself
passed : (w : ℕ) (z : ℤ) → w < 2 ^ 32 → z ≡ number_of w → number_of (word_of z) ≡ number_of w
passed w z h e = rw e (number_word (number_of w) (number_fits w h))

-- what is answered: by what stands in the text's digits, d

module _ (d : Decimal) (n : ℕ) (is : d ≡ decimal.Value n) where
  pub with_zero : n ≡ 0 → reply_of 16 [] ≡ number_reply (with_sign (digits_of d))
  with_zero e = rw (is, e)

  pub with_beyond : 2147483648 < n → reply_of 16 [] ≡ number_reply (with_sign (digits_of d))
  with_beyond h = rw (is, signed_beyond n h)

  pub with_is : (n ≡ 0 → ⊥) → n ≤ 2147483648 → (z : ℤ) → z ≡ number_of (4294967296 - n) →
      reply_of 0 (number_of (word_of z) ∷ []) ≡ number_reply (with_sign (digits_of d))
  with_is o h z e = rw (is, signed_is n o h) (ap (λ (y : ℤ). reply_of 0 (y ∷ [])) (passed (4294967296 - n) z (omega arith) e))

  pub without_beyond : 2147483647 < n → reply_of 16 [] ≡ number_reply (without_sign (digits_of d))
  without_beyond h = rw (is, plain_beyond n h)

  pub without_is : n ≤ 2147483647 → (z : ℤ) → z ≡ number_of n → reply_of 0 (number_of (word_of z) ∷ []) ≡ number_reply (without_sign (digits_of d))
  without_is h z e = rw (is, plain_is n h) (ap (λ (y : ℤ). reply_of 0 (y ∷ [])) (passed n z (omega arith) e))

-- ---- digits

-- digits of k columns give less than limit k, and a field has 12
limit_more : (k : ℕ) → limit k ≤ limit (suc k)
unfolding limit
limit_more k = omega arith

limit_by : (k j : ℕ) → limit k ≤ limit (k + j)
limit_by k zero = let e : k + 0 ≡ k = omega arith in rw e (omega arith)
limit_by k (suc j) = let e : k + suc j ≡ suc (k + j) = omega arith in rw e (omega (arith, limit_by k j, limit_more (k + j)))

pub limit_few : (k : ℕ) → k ≤ 12 → limit k ≤ 1000000000000
unfolding limit
limit_few k h = let e : k + (12 - k) ≡ 12 = omega arith in rw e at (limit_by k (12 - k))

-- the value of the digits passed: from `from` up to i
pub record Counting (text : List ℕ) (from end n i : ℕ) : Type 0 where
  pub after : from ≤ i
  pub before : i ≤ end
  pub below : n < limit (i - from)
  pub is : more_digits 0 (slice from end text) ≡ more_digits n (slice i end text)

module _ (text : List ℕ) (from end : ℕ) (few : end ≤ from + 12) (inside : end ≤ length text) where
  pub counting_none : from ≤ end → Counting text from end 0 from
  unfolding limit
  counting_none h = let e : from - from ≡ 0 = omega arith in record { after = omega arith; before = h; below = rw e (omega arith); is = refl }

  pub counting_few : {n i : ℕ} → Counting text from end n i → n < 1000000000000
  counting_few {n} {i} c = omega (arith, c.below, limit_few (i - from) (omega (arith, c.before)))

  -- one byte more
  step : (n i : ℕ) → i < end →
      more_digits n (slice i end text) ≡ cond (is_digit (get_or text i 0)) (more_digits (10 * n + (get_or text i 0 - 48)) (slice (i + 1) end text)) none
  unfolding more_digits
  step n i h = rw (slice-cons i end text 0 h inside, add-one)

  pub counting_more : {n i : ℕ} → Counting text from end n i → i < end → 48 ≤ get_or text i 0 → get_or text i 0 ≤ 57 →
      Counting text from end (10 * n + (get_or text i 0 - 48)) (i + 1)
  unfolding limit
  counting_more {n} {i} c h a b =
      let k : i + 1 - from ≡ suc (i - from) = omega (arith, c.after) in
      record {
        after = omega (arith, c.after);
        before = omega arith;
        below = rw k (omega (arith, c.below));
        is = c.is ∙ step n i h ∙ rw (le-leb 48 (get_or text i 0) a, le-leb (get_or text i 0) 57 b);
      }

  pub counting_low : {n i : ℕ} → Counting text from end n i → i < end → get_or text i 0 < 48 → more_digits 0 (slice from end text) ≡ none
  counting_low {n} {i} c h a = c.is ∙ step n i h ∙ rw (lt-leb 48 (get_or text i 0) a)

  pub counting_high : {n i : ℕ} → Counting text from end n i → i < end → 48 ≤ get_or text i 0 → 57 < get_or text i 0 → more_digits 0 (slice from end text) ≡ none
  counting_high {n} {i} c h a b = c.is ∙ step n i h ∙ rw (le-leb 48 (get_or text i 0) a, lt-leb (get_or text i 0) 57 b)

  pub counting_all : {n i : ℕ} → Counting text from end n i → end ≤ i → more_digits 0 (slice from end text) ≡ some n
  unfolding more_digits
  counting_all {n} {i} c h = let e : i ≡ end = omega (arith, c.before) in c.is ∙ rw (e, slice_empty end text)

-- ---- a number

-- neither none nor one
pub two_at_least : (from end : ℕ) → from ≤ end → (from ≡ end → ⊥) → (end - from ≡ 1 → ⊥) → from + 1 < end
two_at_least from end h n o = omega arith

module _ (text : List ℕ) (from end : ℕ) (inside : end ≤ length text) where
  opens : from < end → slice from end text ≡ get_or text from 0 ∷ slice (from + 1) end text
  opens h = slice-cons from end text 0 h inside ∙ rw add-one

  empty : from ≡ end → slice from end text ≡ []
  empty e = rw e (slice_empty end text)

  pub unsigned_none : from ≡ end → unsigned (slice from end text) ≡ none
  unsigned_none e = rw (empty e)

  pub unsigned_zero : from + 1 ≡ end → get_or text from 0 ≡ 48 → unsigned (slice from end text) ≡ some 0
  unsigned_zero e z = rw (opens (omega arith), z, e, slice_empty end text)

  pub unsigned_zeros : from + 1 < end → get_or text from 0 ≡ 48 → unsigned (slice from end text) ≡ none
  unsigned_zeros h z = rw (opens (omega arith), z, slice-cons (from + 1) end text 0 h inside)

  pub unsigned_digits : from < end → (get_or text from 0 ≡ 48 → ⊥) → unsigned (slice from end text) ≡ more_digits 0 (slice from end text)
  unsigned_digits h z = rw (opens h, ne_eqb (get_or text from 0) 48 z)

  pub read_none : from ≡ end → read_field (slice from end text) ≡ none
  unfolding read_field
  read_none e = rw (empty e)

  pub read_minus : from < end → get_or text from 0 ≡ 45 → read_field (slice from end text) ≡ with_sign (unsigned (slice (from + 1) end text))
  unfolding read_field
  read_minus h e = rw (opens h, e)

  pub read_plain : from < end → (get_or text from 0 ≡ 32 → ⊥) → (get_or text from 0 ≡ 45 → ⊥) →
      read_field (slice from end text) ≡ without_sign (unsigned (slice from end text))
  unfolding read_field
  read_plain h b m = rw (opens h, ne_eqb (get_or text from 0) 32 b, ne_eqb (get_or text from 0) 45 m)

-- ---- one, two and three digits

-- a digit alone, 0 too
alone : (b : ℕ) → (48 ≡ b) ⊎ (48 < b) → b ≤ 57 → unsigned (b ∷ []) ≡ some (10 * 0 + (b - 48))
unfolding more_digits
alone b (inl e) h = rw (sym e)
alone b (inr l) h = rw (ne_eqb b 48 (λ e. omega (arith, e)), le-leb 48 b (omega arith), le-leb b 57 h)

module _ (text : List ℕ) (from end : ℕ) (inside : end ≤ length text) where
  abbrev digit_at : ℕ → ℕ
  digit_at i = get_or text i 0

  pub read_one : from + 1 ≡ end → 48 ≤ digit_at from → digit_at from ≤ 57 → read_field (slice from end text) ≡ without_sign (some (10 * 0 + (digit_at from - 48)))
  read_one e l h =
      read_plain text from end inside (omega arith) (λ q. omega (arith, q)) (λ q. omega (arith, q))
      ∙ ap (λ bs. without_sign (unsigned bs)) (opens text from end inside (omega arith) ∙ ap (λ bs. digit_at from ∷ bs) (empty text (from + 1) end inside e))
      ∙ ap without_sign (alone (digit_at from) (eq-or-lt_of_le l) h)

  module _ (few : end ≤ from + 12) (l : 49 ≤ digit_at from) (h : digit_at from ≤ 57) where
    -- every digit counted, and the first is not 0
    counted : {n i : ℕ} → Counting text from end n i → from < end → end ≤ i → read_field (slice from end text) ≡ without_sign (some n)
    counted c o a =
        read_plain text from end inside o (λ q. omega (arith, q)) (λ q. omega (arith, q))
        ∙ ap without_sign (unsigned_digits text from end inside o (λ q. omega (arith, q)) ∙ counting_all text from end few inside c a)

    first : from < end → Counting text from end (10 * 0 + (digit_at from - 48)) (from + 1)
    first o = counting_more text from end few inside (counting_none text from end few inside (omega arith)) o (omega arith) h

    second : from + 1 < end → 48 ≤ digit_at (from + 1) → digit_at (from + 1) ≤ 57 →
        Counting text from end (10 * (10 * 0 + (digit_at from - 48)) + (digit_at (from + 1) - 48)) (from + 1 + 1)
    second o = counting_more text from end few inside (first (omega arith)) o

    pub read_two : from + 2 ≡ end → 48 ≤ digit_at (from + 1) → digit_at (from + 1) ≤ 57 →
        read_field (slice from end text) ≡ without_sign (some (10 * (10 * 0 + (digit_at from - 48)) + (digit_at (from + 1) - 48)))
    read_two e a b = counted (second (omega arith) a b) (omega arith) (omega arith)

    pub read_three : from + 3 ≡ end → 48 ≤ digit_at (from + 1) → digit_at (from + 1) ≤ 57 → 48 ≤ digit_at (from + 2) → digit_at (from + 2) ≤ 57 →
        read_field (slice from end text)
        ≡ without_sign (some (10 * (10 * (10 * 0 + (digit_at from - 48)) + (digit_at (from + 1) - 48)) + (digit_at (from + 2) - 48)))
    read_three e a b p q =
        let two : from + 1 + 1 ≡ from + 2 = omega arith in
        counted (counting_more text from end few inside (subst (Counting text from end _) two (second (omega arith) a b)) (omega arith) p q) (omega arith)
        (omega arith)
