-- A left by the pair that is looked up, and a boundary that is passed.
-- Assumes nothing.
use mathlib.Core.Path.{◌≡◌, refl, sym, ap, ◌∙◌}
use mathlib.Core.Bool.{Bool, true, false, not}
use mathlib.Core.List.{List}
use mathlib.Core.Logic.{◌⊎◌, inl, inr}
use mathlib.Core.Option.{Option, none, some}
use Prim.Native.Nat.{ℕ, suc, ◌+◌, ◌^◌, ◌<◌, ◌≤◌}
use Rattle.words.proofs.Tests.{less_or_not}
use native.Mathlib.Numerals.{add-one}
use native.Mathlib.Omega.{arith}
use lib.IntN.{ℤ}
use lib.Dec.{eqb}
use lib.ListN.{length, get_or}
use borrow.Author.Tests.{lt-ltb, le-ltb, eqb-true, eq-eqb, ne_eqb}
use Rattle.words.specs.Words.{word_of, number_of, Word}
use Rattle.words.proofs.Bits.{number_pos, number_neg}
use Rattle.lang.specs.Every.{both}
use Rattle.lang.proofs.Every.{both_left}
use Rattle.reading.specs.Items.{item}
use Rattle.captions.specs.declared.NextLeft.TheVariants as next
use Rattle.captions.specs.declared.Consumes.TheVariants as consumes
use Rattle.captions.specs.declared.State.{State}
use Rattle.captions.specs.Tables.{number, count_of, last_code, last_flag, record_fits}
use Rattle.captions.specs.Queries.{is_found}
use Rattle.captions.specs.Steps.{find_within, or_boundary, after_right, gives_nothing, entered_at}
use Rattle.captions.proofs.Sound.{state}
use Rattle.captions.proofs.Beyond.{within_left, within_right}
use Rattle.font_runs.specs.Changes.{pairless, left_free}

no : {A : Type 0} → ◌≡◌ {A = Bool} false true → A
no e = absurd (let z : ◌≡◌ {A = ℕ} 0 1 = cc in omega arith)

-- ---- a pair that is looked up

module _ (pairs : List ℤ) (x y : ℕ) where
  pub pairless_is : {o : Option ℕ} → find_within pairs x y ≡ o → not (is_found o) ≡ pairless pairs x (some y)
  pairless_is e = ap (λ (o : Option ℕ). not (is_found o)) (sym e)

-- a left above 255 has none
pub left_above : (pairs : List ℤ) (c : ℕ) (o : Option ℕ) → 255 < c → true ≡ pairless pairs (suc c) o
left_above pairs c none h = refl
left_above pairs c (some y) h = pairless_is pairs (suc c) y (within_left pairs (suc c) y (omega (arith, h)))

-- the right item by its bits
pub right_bits : (pairs : List ℤ) (x w : ℕ) → pairless pairs x (some w) ≡ pairless pairs x (or_boundary (number_of w))
right_bits pairs x w = by (less_or_not w (2 ^ 31))
  where
    by : (w < 2 ^ 31) ⊎ (2 ^ 31 ≤ w) → pairless pairs x (some w) ≡ pairless pairs x (or_boundary (number_of w))
    by (inl h) = ap (λ (z : ℤ). pairless pairs x (or_boundary z)) (sym (number_pos w h))
    by (inr h) =
        sym (pairless_is pairs x w (within_right pairs x w (omega (arith, h)))) ∙ ap (λ (z : ℤ). pairless pairs x (or_boundary z)) (sym (number_neg w h))

-- ---- a character, by whether a letter follows

module _ (pairs : List ℤ) (right : Option ℕ) (word : List ℕ) (r c : ℕ) {b : Bool} where
  pub before_letter : r < length word → b ≡ pairless pairs (c + 1) (some (get_or word r 0)) → b ≡ left_free pairs right word r (next.Char c)
  before_letter h e =
      rw (lt-ltb r (length word) h) (e ∙ ap (λ (x : ℕ). pairless pairs x (some (get_or word r 0))) (add-one c))

  pub past_last : length word ≤ r → b ≡ pairless pairs (c + 1) right → b ≡ left_free pairs right word r (next.Char c)
  past_last h e =
      rw (le-ltb r (length word) h) (e ∙ ap (λ (x : ℕ). pairless pairs x right) (add-one c))

-- ---- an entry that gives nothing

module _ (pairs ops : List ℤ) (k : ℕ) where
  pub has_ops : {w : ℕ} → record_fits pairs ops k ≡ true → Word (number pairs k 5) w → (w ≡ 0 → ⊥) →
      false ≡ both (record_fits pairs ops k) (gives_nothing pairs k)
  has_ops {w} f r h = rw (f, ne_eqb (word_of (number pairs k 5)) 0 (λ e. h (r.is ∙ e)))

  pub last_decides : {v w : ℕ} → record_fits pairs ops k ≡ true → Word (number pairs k 5) w → w ≡ 0 → Word (number pairs k 3) v →
      not (eqb v 1) ≡ both (record_fits pairs ops k) (gives_nothing pairs k)
  last_decides {v} {w} f r h q = rw (f, eq-eqb (word_of (number pairs k 5)) 0 (sym r.is ∙ h), q.is)

-- the state past it
module _ (pairs : List ℤ) (s : State) (k : ℕ) (h : gives_nothing pairs k ≡ true) where
  last_plain : (z f : Bool) → both z (not f) ≡ true → f ≡ false
  last_plain true true e = no e
  last_plain true false e = refl
  last_plain false f e = no e

  after_it : after_right true (item (last_flag pairs k) (last_code pairs k)) ≡ next.Char (last_code pairs k)
  after_it = ap (λ (f : Bool). after_right true (item f (last_code pairs k))) (last_plain (eqb (count_of pairs k) 0) (last_flag pairs k) h)

  pub past_it : {c o : ℕ} → Word (number pairs k 2) c → Word (number pairs k 4) o →
      state (next.Char c) o 0 (s.read + 1) s.given s.pending s.pending_boundary consumes.Boundary ≡ entered_at pairs next.Boundary true s k
  past_it q r =
      let n = ap next.Char q.is ∙ sym after_it in
      let z = sym (eqb-true (count_of pairs k) 0 (both_left (eqb (count_of pairs k) 0) _ h)) in
      λ j. state (n j) (r.is j) (z j) (add-one s.read j) s.given s.pending s.pending_boundary consumes.Boundary
