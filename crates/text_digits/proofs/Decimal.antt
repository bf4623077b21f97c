-- Two digits as one number, and the digits of a number, written from the right.
-- Assumes nothing.
use mathlib.Core.Path.{◌≡◌, refl, sym, ap, subst, ◌∙◌}
use mathlib.Core.Bool.{Bool, true, false, cond}
use mathlib.Core.List.{List, [], ◌∷◌, ◌++◌, append_assoc, append-nil}
use mathlib.Core.Logic.{◌⊎◌, inl, inr}
use Prim.Native.Nat.{ℕ, zero, suc, ◌+◌, ◌-◌, ◌/◌, ◌*◌, ◌%◌, ◌^◌, ◌<◌, ◌≤◌}
use native.Mathlib.Numerals.{add-one}
use native.Mathlib.Omega.{arith}
use lib.IntN.{ℤ, pos, negsuc}
use lib.Dec.{leb}
use lib.ListN.{length, set, replicate, length-append}
use lib.Seq.{sets, set_comm}
use borrow.Author.Tests.{lt-ltb, le-ltb, le-leb, lt-leb}
use Rattle.words.specs.Words.{number_of}
use Rattle.words.proofs.Bits.{number_pos, number_neg}
use Rattle.words.proofs.Tests.{less_or_not}
use Rattle.columns.specs.Numbers.{digits, spelled}
use Rattle.columns.proofs.Digits.{limit}
use Rattle.columns.proofs.ReadBack.{field_long}
use Rattle.text_digits.specs.Spelling.{digit_pair, spells, spells_where}
use Rattle.text_digits.proofs.Stores.{sets_before, sets_front}

-- ---- two digits as one number

module _ {n r : ℕ} (h : n < 100) (e : r ≡ digit_pair n) where
  pub pair_is : r ≡ 48 + n / 10 + 256 * (48 + n % 10)
  pair_is = e ∙ ap (λ (b : Bool). cond b (48 + n / 10 + 256 * (48 + n % 10)) 0) (lt-ltb n 100 h)

  pub pair_first : r % 256 ≡ 48 + n / 10
  pair_first = let q : (48 + n / 10 + 256 * (48 + n % 10)) % 256 ≡ 48 + n / 10 = omega arith in ap (λ (m : ℕ). m % 256) pair_is ∙ q

  pub pair_second : r / 256 ≡ 48 + n % 10
  pair_second = let q : (48 + n / 10 + 256 * (48 + n % 10)) / 256 ≡ 48 + n % 10 = omega arith in ap (λ (m : ℕ). m / 256) pair_is ∙ q

  -- its two bytes stored
  pub pair_stored : (l : List ℕ) (at : ℕ) → set (set l at (r % 256)) (at + 1) (r / 256) ≡ sets l at ((48 + n / 10) ∷ (48 + n % 10) ∷ [])
  pair_stored l at = λ i. set (set l at (pair_first i)) (add-one at i) (pair_second i)

-- ---- digits before others

-- of the digits of n before `end`, those that are written, from place i on; m has the others
pub record Written (n end : ℕ) (l d : List ℕ) (i m : ℕ) : Type 0 where
  pub left : ℕ
  pub done : List ℕ
  pub whole : digits 10 n ≡ digits (suc left) m ++ done
  pub few : m < limit (suc left)
  pub less : m ≤ n
  pub place : i + length done ≡ end
  pub ten : suc left + length done ≡ 10
  pub stored : d ≡ sets l i done

pub written_none : (n end : ℕ) (l : List ℕ) → n < 2 ^ 32 → Written n end l l end n
unfolding limit
written_none n end l h =
    record
    { left = 9; done = []; whole = sym (append-nil (digits 10 n)); few = omega arith; less = omega arith; place = omega arith; ten = refl; stored = refl }

-- there is room for one digit more
pub written_place : {n end : ℕ} {l d : List ℕ} {i m : ℕ} → Written n end l d i m → 10 ≤ end → (0 < i) × (i ≤ end)
written_place w h = (omega (arith, w.place, w.ten), omega (arith, w.place))

more_by : {n end : ℕ} {l d : List ℕ} {i m : ℕ} (left : ℕ) (done : List ℕ) → digits 10 n ≡ digits (suc left) m ++ done → m < limit (suc left) → m ≤ n →
    i + length done ≡ end → suc left + length done ≡ 10 → d ≡ sets l i done → 10 ≤ m → 0 < i → Written n end l (set d (i - 1) (48 + m % 10)) (i - 1) (m / 10)
unfolding digits limit
more_by zero done w f o p t s h k = absurd (omega arith)
more_by {l = l} {d} {i} {m} (suc left) done w f o p t s h k =
    record {
      left = left;
      done = (48 + m % 10) ∷ done;
      whole = w ∙ rw (le-ltb m 10 h) (append_assoc (digits (suc left) (m / 10)) ((48 + m % 10) ∷ []) done);
      few = omega arith;
      less = omega arith;
      place = omega arith;
      ten = omega arith;
      stored = sets_before done l d i (48 + m % 10) k s;
    }

pub written_more : {n end : ℕ} {l d : List ℕ} {i m : ℕ} → Written n end l d i m → 10 ≤ end → 10 ≤ m →
    Written n end l (set d (i - 1) (48 + m % 10)) (i - 1) (m / 10)
written_more w e h = more_by w.left w.done w.whole w.few w.less w.place w.ten w.stored h (written_place w e).0

-- the two digits of what is left over the hundreds
rest_tens : (n : ℕ) → (n - 100 * (n / 100)) / 10 ≡ n / 10 % 10
rest_tens n = omega arith

rest_ones : (n : ℕ) → (n - 100 * (n / 100)) % 10 ≡ n % 10
rest_ones n = omega arith

-- two digits more
pub written_two : {n end : ℕ} {l d d' : List ℕ} {i m : ℕ} (j : ℕ) → Written n end l d i m → 10 ≤ end → 100 ≤ m → j + 2 ≡ i →
    d' ≡ sets d j ((48 + m / 10 % 10) ∷ (48 + m % 10) ∷ []) → Written n end l d' j (m / 100)
written_two {n} {end} {l} {d} {d'} {i} {m} j w e h p g =
    let ones = 48 + m % 10 in
    let tens = 48 + m / 10 % 10 in
    let more = written_more (written_more w e (omega arith)) e (omega arith) in
    let first : i - 1 - 1 ≡ j = omega arith in
    let last : i - 1 ≡ suc j = omega arith in
    let others : m / 10 / 10 ≡ m / 100 = omega arith in
    let was = set (set d (i - 1) ones) (i - 1 - 1) tens in
    let same : was ≡ d' = (λ x. set (set d (last x) ones) (first x) tens) ∙ sym (set_comm d j (suc j) tens ones (λ q. omega (arith, q))) ∙ sym g in
    subst (λ (t : List ℕ). Written n end l t j (m / 100)) same
    (subst (λ (k : ℕ). Written n end l was k (m / 100)) first (subst (Written n end l was (i - 1 - 1)) others more))

pub written_low : {n end : ℕ} {l d d' : List ℕ} {i m r : ℕ} (j : ℕ) → Written n end l d i m → 10 ≤ end → 100 ≤ m → j + 2 ≡ i →
    (r ≡ m / 100) × (d' ≡ sets d j ((48 + m / 10 % 10) ∷ (48 + m % 10) ∷ [])) → Written n end l d' j r
written_low {n} {end} {l} {d' = d'} j w e h p g = subst (Written n end l d' j) (sym g.0) (written_two j w e h p g.1)

-- the last one or two
short_by : (left m : ℕ) → (m < 10) ⊎ (10 ≤ m) → m < limit (suc left) → m < 100 → digits (suc left) m ≡ digits 10 m
unfolding digits limit
short_by left m (inl h) f k = rw (lt-ltb m 10 h)
short_by zero m (inr h) f k = absurd (omega arith)
short_by (suc left) m (inr h) f k = rw (le-ltb m 10 h, lt-ltb (m / 10) 10 (omega arith))

pub written_top : {n end : ℕ} {l d d' : List ℕ} {i m : ℕ} (r : ℕ) → Written n end l d i m → m < 100 → r + length (digits 10 m) ≡ i →
    d' ≡ sets d r (digits 10 m) → (r + length (digits 10 n) ≡ end) × (d' ≡ sets l r (digits 10 n))
written_top {n} {l = l} {d} {d'} {i} {m} r w h p g =
    let whole : digits 10 n ≡ digits 10 m ++ w.done = w.whole ∙ ap (λ (t : List ℕ). t ++ w.done) (short_by w.left m (less_or_not m 10) w.few h) in (
      omega (arith, ap length whole, length-append (digits 10 m) w.done, w.place),
      sets_front (digits 10 m) w.done l d d' i r w.stored p g ∙ ap (sets l r) (sym whole),
    )

pub top_one : (n : ℕ) → n < 10 → digits 10 n ≡ (48 + n) ∷ []
unfolding digits
top_one n h = rw (lt-ltb n 10 h)

pub top_two : (n : ℕ) → 10 ≤ n → n < 100 → digits 10 n ≡ (48 + n / 10) ∷ (48 + n % 10) ∷ []
unfolding digits
top_two n h k = rw (le-ltb n 10 h, lt-ltb (n / 10) 10 (omega arith))

top_three : (n : ℕ) → 100 ≤ n → n < 1000 → digits 10 n ≡ (48 + n / 100) ∷ (48 + n / 10 % 10) ∷ (48 + n % 10) ∷ []
unfolding digits
top_three n h k =
    let e : n / 10 / 10 ≡ n / 100 = omega arith in
    rw (le-ltb n 10 (omega arith), le-ltb (n / 10) 10 (omega arith), e, lt-ltb (n / 100) 10 (omega arith))

-- ---- the spelling of a number, at the end of its columns

pub few_bytes : (z : ℤ) → length (spelled z) ≤ 12
few_bytes z = omega (arith, length-append (replicate {A = ℕ} (12 - length (spelled z)) 32) (spelled z), field_long z)

module _ (d : List ℕ) (at : ℕ) where
  spelling : (w : ℕ) (z : ℤ) (d' : List ℕ) (r : ℕ) → number_of w ≡ z → r + length (spelled z) ≡ at + 12 → d' ≡ sets d r (spelled z) → d' ≡ spells d at w
  spelling w z d' r n p e =
      let q : r ≡ at + (12 - length (spelled z)) = omega (arith, few_bytes z, p) in
      e ∙ ap (λ (k : ℕ). sets d k (spelled z)) q ∙ ap (λ (y : ℤ). sets d (at + (12 - length (spelled y))) (spelled y)) (sym n)

  pub spells_positive : (w : ℕ) → w < 2 ^ 31 → (d' : List ℕ) (r : ℕ) → r + length (digits 10 w) ≡ at + 12 → d' ≡ sets d r (digits 10 w) → d' ≡ spells d at w
  spells_positive w h d' r p e = spelling w (pos w) d' r (number_pos w h) p e

  -- one digit, two and three
  pub spells_one : (w : ℕ) → w < 10 → set d (at + 11) (48 + w) ≡ spells d at w
  spells_one w h =
      let e = top_one w h in
      spells_positive w (omega arith) (set d (at + 11) (48 + w)) (at + 11) (omega (arith, ap length e)) (ap (sets d (at + 11)) (sym e))

  pub spells_two : (w : ℕ) → 10 ≤ w → w < 100 → (d' : List ℕ) → d' ≡ sets d (at + 10) ((48 + w / 10) ∷ (48 + w % 10) ∷ []) → d' ≡ spells d at w
  spells_two w h k d' g =
      let e = top_two w h k in
      spells_positive w (omega arith) d' (at + 10) (omega (arith, ap length e)) (g ∙ ap (sets d (at + 10)) (sym e))

  pub spells_three : (w h q : ℕ) → 100 ≤ w → w < 1000 → h ≡ w * 41 / 4096 → q ≡ w - 100 * h → (d' : List ℕ) →
      d' ≡ sets (set d (at + 9) (48 + h)) (at + 10) ((48 + q / 10) ∷ (48 + q % 10) ∷ []) → d' ≡ spells d at w
  spells_three w h q l k s qs d' g =
      let e = top_three w l k in
      let few : w / 100 ≤ 9 = omega arith in
      let hs : h ≡ w / 100 = omega (arith, few, s) in
      let tens : q / 10 ≡ w / 10 % 10 = rw (qs, hs) (rest_tens w) in
      let ones : q % 10 ≡ w % 10 = rw (qs, hs) (rest_ones w) in
      let p : at + 10 ≡ suc (at + 9) = omega arith in
      spells_positive w (omega arith) d' (at + 9) (omega (arith, ap length e))
      (g
      ∙ (λ x. sets (set d (at + 9) (48 + hs x)) (p x) ((48 + tens x) ∷ (48 + ones x) ∷ []))
      ∙ ap (sets d (at + 9)) (sym e))

  -- the digits of a negative number leave room for its sign
  module _ (w : ℕ) (h : 2 ^ 31 ≤ w) (f : w < 2 ^ 32) (d' : List ℕ) (r : ℕ) (p : r + length (digits 10 (4294967295 - w + 1)) ≡ at + 12) where
    size_is : 4294967295 - w + 1 ≡ suc (2 ^ 32 - suc w)
    size_is = omega arith

    digits_are : digits 10 (4294967295 - w + 1) ≡ digits 10 (suc (2 ^ 32 - suc w))
    digits_are = ap (digits 10) size_is

    pub sign_place : (0 < r) × (r - 1 < at + 12)
    sign_place = let q = few_bytes (negsuc (2 ^ 32 - suc w)) in (omega (arith, q, p, ap length digits_are), omega (arith, q, p, ap length digits_are))

    pub spells_negative : d' ≡ sets d r (digits 10 (4294967295 - w + 1)) → set d' (r - 1) 45 ≡ spells d at w
    spells_negative e =
        spelling w (negsuc (2 ^ 32 - suc w)) (set d' (r - 1) 45) (r - 1) (number_neg w h) (omega (arith, p, ap length digits_are, sign_place.0))
        (sets_before (digits 10 (suc (2 ^ 32 - suc w))) d d' r 45 sign_place.0 (e ∙ ap (sets d r) digits_are))

-- ---- where there is room, and where there is none

module _ (d : List ℕ) (at w : ℕ) where
  where_is : (b : Bool) → leb (at + 12) (length d) ≡ b → spells_where d at w ≡ cond b (spells d at w) d
  where_is b e = ap (λ (t : Bool). cond t (spells d at w) d) e

  pub room_is : at + 12 ≤ length d → spells_where d at w ≡ spells d at w
  room_is h = where_is true (le-leb (at + 12) (length d) h)

  pub room_none : length d < at + 12 → spells_where d at w ≡ d
  room_none h = where_is false (lt-leb (at + 12) (length d) h)
