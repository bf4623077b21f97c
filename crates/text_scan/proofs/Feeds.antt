-- A field that is read holds no line feed; so the first line of a text that starts with n fields and a line feed is these.
-- Assumes nothing.
use mathlib.Core.Path.{◌≡◌, refl, ap, ◌∙◌}
use mathlib.Core.Bool.{Bool, true, false, cond, not}
use mathlib.Core.List.{List, [], ◌∷◌, ◌++◌}
use mathlib.Core.Option.{Option, none, some, some-injective}
use Prim.Native.Nat.{ℕ, zero, suc, ◌+◌, ◌-◌, ◌*◌}
use native.Mathlib.Omega.{arith}
use lib.IntN.{ℤ}
use lib.Dec.{eqb}
use lib.ListN.{length, take, drop, length-drop}
use lib.Seq.{take-add, take-append-le, drop-append-le}
use borrow.Author.Tests.{eqb-true, ne_eqb}
use Rattle.lang.specs.Every.{both}
use Rattle.columns.specs.Numbers.{is_digit, more_digits, if_none, unsigned, with_sign, without_sign, read_field}
use Rattle.columns.specs.Lines.{on_first, after_feed, lines_of, and_number, read_fields}
use Rattle.columns.proofs.Options.{none_some, cond_some, and_some}
use Rattle.columns.proofs.Digits.{digit_is}

-- ---- no line feed

unfoldable pub feedless : List ℕ → Bool
feedless [] = true
feedless (b ∷ bs) = both (not (eqb b 10)) (feedless bs)

feedless_append : (xs ys : List ℕ) → feedless xs ≡ true → feedless ys ≡ true → feedless (xs ++ ys) ≡ true
unfolding feedless
feedless_append [] ys e f = f
feedless_append (x ∷ xs) ys e f = by (not (eqb x 10)) e (λ g. feedless_append xs ys g f)
  where
    by : (t : Bool) → both t (feedless xs) ≡ true → (feedless xs ≡ true → feedless (xs ++ ys) ≡ true) → both t (feedless (xs ++ ys)) ≡ true
    by true e k = k e
    by false e k = e

pub feedless_more : (b : ℕ) (bs : List ℕ) → (b ≡ 10 → ⊥) → feedless bs ≡ true → feedless (b ∷ bs) ≡ true
unfolding feedless
feedless_more b bs n e = rw (ne_eqb b 10 n) e

digits_feedless : (bs : List ℕ) (m n : ℕ) → more_digits m bs ≡ some n → feedless bs ≡ true
unfolding more_digits feedless
digits_feedless [] m n e = refl
digits_feedless (b ∷ bs) m n e =
    let c = cond_some (is_digit b) (more_digits (10 * m + (b - 48)) bs) n e in
    let d = digit_is b c.0 in
    feedless_more b bs (λ f. omega (arith, d.0, f)) (digits_feedless bs (10 * m + (b - 48)) n c.1)

alone_feedless : (bs : List ℕ) (n : ℕ) → if_none bs (some 0) ≡ some n → feedless bs ≡ true
unfolding feedless
alone_feedless [] n e = refl
alone_feedless (b ∷ bs) n e = absurd (none_some e)

unsigned_feedless : (bs : List ℕ) (r : Option ℕ) (n : ℕ) → unsigned bs ≡ r → r ≡ some n → feedless bs ≡ true
unfolding feedless
unsigned_feedless [] r n u e = refl
unsigned_feedless (b ∷ bs) r n u e = by (eqb b 48) refl (u ∙ e)
  where
    by : (t : Bool) → eqb b 48 ≡ t → cond t (if_none bs (some 0)) (more_digits 0 (b ∷ bs)) ≡ some n → feedless (b ∷ bs) ≡ true
    by true t e = let q = eqb-true b 48 t in feedless_more b bs (λ f. omega (arith, q, f)) (alone_feedless bs n e)
    by false t e = digits_feedless (b ∷ bs) 0 n e

signed_feedless : (bs : List ℕ) (r : Option ℕ) (z : ℤ) → unsigned bs ≡ r → with_sign r ≡ some z → feedless bs ≡ true
signed_feedless bs none z u e = absurd (none_some e)
signed_feedless bs (some n) z u e = unsigned_feedless bs (some n) n u refl

plain_feedless : (bs : List ℕ) (r : Option ℕ) (z : ℤ) → unsigned bs ≡ r → without_sign r ≡ some z → feedless bs ≡ true
plain_feedless bs none z u e = absurd (none_some e)
plain_feedless bs (some n) z u e = unsigned_feedless bs (some n) n u refl

field_feedless : (bs : List ℕ) (z : ℤ) → read_field bs ≡ some z → feedless bs ≡ true
unfolding read_field
field_feedless [] z e = absurd (none_some e)
field_feedless (b ∷ bs) z e = by (eqb b 32) refl e (field_feedless bs z)
  where
    unblank : (t : Bool) → eqb b 45 ≡ t → cond t (with_sign (unsigned bs)) (without_sign (unsigned (b ∷ bs))) ≡ some z → feedless (b ∷ bs) ≡ true
    unblank true t e = let q = eqb-true b 45 t in feedless_more b bs (λ f. omega (arith, q, f)) (signed_feedless bs (unsigned bs) z refl e)
    unblank false t e = plain_feedless (b ∷ bs) (unsigned (b ∷ bs)) z refl e

    by : (t : Bool) → eqb b 32 ≡ t → cond t (read_field bs) (cond (eqb b 45) (with_sign (unsigned bs)) (without_sign (unsigned (b ∷ bs)))) ≡ some z →
        (read_field bs ≡ some z → feedless bs ≡ true) → feedless (b ∷ bs) ≡ true
    by true t e k = let q = eqb-true b 32 t in feedless_more b bs (λ f. omega (arith, q, f)) (k e)
    by false t e k = unblank (eqb b 45) refl e

pub fields_feedless : (n : ℕ) (bs : List ℕ) (zs : List ℤ) → read_fields n bs ≡ some zs → feedless (take (12 * n) bs) ≡ true
unfolding read_fields feedless
fields_feedless zero bs zs e = refl
fields_feedless (suc n) bs zs e =
    let g = and_some (read_field (take 12 bs)) (read_fields n (drop 12 bs)) zs e in
    let k : 12 * suc n ≡ 12 + 12 * n = omega arith in
    rw (k, take-add 12 (12 * n) bs)
    (feedless_append (take 12 bs) (take (12 * n) (drop 12 bs)) (field_feedless (take 12 bs) g.first g.is_first)
    (fields_feedless n (drop 12 bs) g.others g.are_others))

-- ---- the first line

abbrev pub first_of : List ℕ → Option (List (List ℕ)) → Option (List (List ℕ))
first_of l none = none
first_of l (some ls) = some (l ∷ ls)

feed_first : (r : Option (List (List ℕ))) → after_feed r ≡ first_of [] r
feed_first none = refl
feed_first (some ls) = refl

byte_first : (b : ℕ) (l : List ℕ) (r : Option (List (List ℕ))) → on_first b (first_of l r) ≡ first_of (b ∷ l) r
byte_first b l none = refl
byte_first b l (some ls) = refl

pub lines_first : (l rest : List ℕ) → feedless l ≡ true → lines_of (l ++ (10 ∷ rest)) ≡ first_of l (lines_of rest)
unfolding lines_of feedless
lines_first [] rest e = feed_first (lines_of rest)
lines_first (b ∷ l) rest e = by (eqb b 10) e (lines_first l rest)
  where
    by : (t : Bool) → both (not t) (feedless l) ≡ true → (feedless l ≡ true → lines_of (l ++ (10 ∷ rest)) ≡ first_of l (lines_of rest)) →
        cond t (after_feed (lines_of (l ++ (10 ∷ rest)))) (on_first b (lines_of (l ++ (10 ∷ rest)))) ≡ first_of (b ∷ l) (lines_of rest)
    by true e k = absurd (let z : ◌≡◌ {A = ℕ} 0 1 = cc in omega arith)
    by false e k = ap (on_first b) (k e) ∙ byte_first b l (lines_of rest)

-- and back: a first line, its line feed, and the rest
pub record FirstLine (bs l : List ℕ) (ls : List (List ℕ)) : Type 0 where
  pub rest : List ℕ
  pub is : bs ≡ l ++ (10 ∷ rest)
  pub others : lines_of rest ≡ some ls

module _ (b : ℕ) (bs : List ℕ) (l : List ℕ) (ls : List (List ℕ)) where
  feed_split : (r : Option (List (List ℕ))) → lines_of bs ≡ r → b ≡ 10 → after_feed r ≡ some (l ∷ ls) → FirstLine (b ∷ bs) l ls
  feed_split none i f e = absurd (none_some e)
  feed_split (some ks) i f e =
      let q : ◌≡◌ {A = List (List ℕ)} ([] ∷ ks) (l ∷ ls) = some-injective ([] ∷ ks) (l ∷ ls) e in
      let ql : [] ≡ l = cc in
      let qs : ks ≡ ls = cc in
      record { rest = bs; is = rw (f, ← ql); others = rw (← qs) i }

  byte_split : (r : Option (List (List ℕ))) → lines_of bs ≡ r → on_first b r ≡ some (l ∷ ls) →
      ((k : List ℕ) (ks : List (List ℕ)) → lines_of bs ≡ some (k ∷ ks) → FirstLine bs k ks) → FirstLine (b ∷ bs) l ls
  byte_split none i e h = absurd (none_some e)
  byte_split (some []) i e h = absurd (none_some e)
  byte_split (some (k ∷ ks)) i e h =
      let q : ◌≡◌ {A = List (List ℕ)} ((b ∷ k) ∷ ks) (l ∷ ls) = some-injective ((b ∷ k) ∷ ks) (l ∷ ls) e in
      let ql : b ∷ k ≡ l = cc in
      let qs : ks ≡ ls = cc in
      let g = h k ks i in
      record { rest = g.rest; is = rw (← ql) (ap (λ (m : List ℕ). b ∷ m) g.is); others = rw (← qs) g.others }

pub lines_split : (bs l : List ℕ) (ls : List (List ℕ)) → lines_of bs ≡ some (l ∷ ls) → FirstLine bs l ls
unfolding lines_of
lines_split [] l ls e = absurd (let z : ◌≡◌ {A = ℕ} 0 1 = cc in omega arith)
lines_split (b ∷ bs) l ls e = by (eqb b 10) refl e (lines_split bs)
  where
    by : (t : Bool) → eqb b 10 ≡ t → cond t (after_feed (lines_of bs)) (on_first b (lines_of bs)) ≡ some (l ∷ ls) →
        ((k : List ℕ) (ks : List (List ℕ)) → lines_of bs ≡ some (k ∷ ks) → FirstLine bs k ks) → FirstLine (b ∷ bs) l ls
    by true t e h = feed_split b bs l ls (lines_of bs) refl (eqb-true b 10 t) e
    by false t e h = byte_split b bs l ls (lines_of bs) refl e h

-- bytes have a line
pub lines_some : (b : ℕ) (bs : List ℕ) → lines_of (b ∷ bs) ≡ some [] → ⊥
unfolding lines_of
lines_some b bs e = by (eqb b 10) (lines_of bs) e
  where
    by : (t : Bool) (r : Option (List (List ℕ))) → cond t (after_feed r) (on_first b r) ≡ some [] → ⊥
    by true none e = none_some e
    by true (some ls) e = let z : ◌≡◌ {A = ℕ} 0 1 = cc in omega arith
    by false none e = none_some e
    by false (some []) e = none_some e
    by false (some (l ∷ ls)) e = let z : ◌≡◌ {A = ℕ} 0 1 = cc in omega arith

-- ---- the fields of a line

-- what comes after them does not change them
pub fields_prefix : (n : ℕ) (ds more : List ℕ) → length ds ≡ 12 * n → read_fields n (ds ++ more) ≡ read_fields n ds
unfolding read_fields
fields_prefix zero ds more l = refl
fields_prefix (suc n) ds more l =
    rw (take-append-le 12 ds more (omega arith), drop-append-le 12 ds more (omega arith))
    (ap (and_number (read_field (take 12 ds))) (fields_prefix n (drop 12 ds) more (length-drop 12 ds ∙ omega arith)))
