-- The table of 257 entries: the labels of an instruction, and the next instruction that has one.
-- Assumes nothing.
use mathlib.Core.Path.{◌≡◌, refl, ap, sym, ◌∙◌}
use mathlib.Core.Bool.{Bool, true, false}
use mathlib.Core.List.{List, [], ◌∷◌, ◌++◌, append-nil}
use mathlib.Core.Logic.{◌⊎◌, inl, inr}
use Prim.Native.Nat.{ℕ, zero, suc, ◌+◌, ◌<◌, ◌≤◌, min}
use native.Mathlib.Numerals.{add-one}
use native.Mathlib.Omega.{arith}
use lib.IntN.{ℤ, pos}
use lib.ListN.{length, get_or}
use borrow.Author.Tests.{eq-eqb, ne_eqb}
use Rattle.words.specs.Words.{Word, word_of}
use Rattle.words.proofs.Tests.{less_or_not}
use Rattle.property_lists.specs.Putting.{PutsCounted}
use Rattle.property_lists.specs.Displays.{label_line, boundary_label_line, char_labels, label_lines}
use Rattle.property_lists.proofs.Putting.{counted_none, counted_more}
use Rattle.pl_write.specs.NextLabels.{NextLabel, NextLabelIn}

-- ---- the next label

pub label_none : (t : List ℤ) (from n : ℕ) → from ≤ n → NextLabelIn 0 t from n
label_none t from n h = record { least = h; none = λ b i l f g e. omega arith }

module _ {t : List ℤ} {from : ℕ} {c lowest w : ℕ} (n : NextLabelIn c t from lowest) (q : Word (get_or t c (pos 0)) w) where
  -- one place more, for a number that is no higher than before nor, where the place is from `from` on, than the place
  place_more : (r : ℕ) → from ≤ r → r ≤ lowest → (from ≤ w → r ≤ w) → NextLabelIn (c + 1) t from r
  place_more r h l k = record { least = h; none = λ b i x f g e. by b i (less_or_not b c) x f g e }
    where
      by : (b i : ℕ) → (b < c) ⊎ (c ≤ b) → b < c + 1 → from ≤ i → i < r → word_of (get_or t b (pos 0)) ≡ i → ⊥
      by b i (inl y) x f g e = n.none b i y f (omega arith) e
      by b i (inr y) x f g e =
          let z : b ≡ c = omega arith in
          let v : word_of (get_or t c (pos 0)) ≡ i = rw z at e in
          let u : w ≡ i = q.is ∙ v in
          omega (arith, k (omega arith))

  pub label_lower : {r : ℕ} → from ≤ w → r ≡ min w lowest → NextLabelIn (c + 1) t from r
  label_lower {r} h e = let l = n.least in place_more r (omega arith) (omega arith) (λ f. omega arith)

  pub label_same : w < from → NextLabelIn (c + 1) t from lowest
  label_same h = place_more lowest n.least (omega arith) (λ f. absurd (omega arith))

pub label_all : {t : List ℤ} {from c r : ℕ} → c ≡ 257 → NextLabelIn c t from r → NextLabel t from r
label_all e n = rw e at n

-- ---- the labels of an instruction

pub chars_none : (t : List ℤ) (i : ℕ) {out : List ℕ} {at r : ℕ} → r ≡ min at (length out + 1) → PutsCounted out at (char_labels t i 0) r out
unfolding char_labels
chars_none t i {out} {at} e = counted_none out at e

module _ (t : List ℤ) (i c : ℕ) {w : ℕ} {out : List ℕ} {at m : ℕ} {d : List ℕ} (p : PutsCounted out at (char_labels t i c) m d)
    (q : Word (get_or t c (pos 0)) w) where
  pub chars_one : {r : ℕ} {d' : List ℕ} → w ≡ i → PutsCounted d m (label_line c) r d' → PutsCounted out at (char_labels t i (c + 1)) r d'
  unfolding char_labels
  chars_one e x = rw (add-one, eq-eqb (word_of (get_or t c (pos 0))) i (sym q.is ∙ e)) (counted_more p x)

  pub chars_same : (w ≡ i → ⊥) → PutsCounted out at (char_labels t i (c + 1)) m d
  unfolding char_labels
  chars_same h = rw (add-one, ne_eqb (word_of (get_or t c (pos 0))) i (λ e. h (q.is ∙ e)), append-nil) p

pub chars_all : (t : List ℤ) (i c : ℕ) {out : List ℕ} {at m : ℕ} {d : List ℕ} → c ≡ 256 → PutsCounted out at (char_labels t i c) m d →
    PutsCounted out at (char_labels t i 256) m d
chars_all t i c e p = rw e at p

module _ (t : List ℤ) (i : ℕ) {w : ℕ} (q : Word (get_or t 256 (pos 0)) w) where
  pub labels_both : {out : List ℕ} {at m r : ℕ} {d d' : List ℕ} → w ≡ i → PutsCounted out at boundary_label_line m d →
      PutsCounted d m (char_labels t i 256) r d' → PutsCounted out at (label_lines t i) r d'
  labels_both e x y = rw (eq-eqb (word_of (get_or t 256 (pos 0))) i (sym q.is ∙ e)) (counted_more x y)

  pub labels_chars : {out : List ℕ} {at r : ℕ} {d : List ℕ} → (w ≡ i → ⊥) → PutsCounted out at (char_labels t i 256) r d →
      PutsCounted out at (label_lines t i) r d
  labels_chars h y = rw (ne_eqb (word_of (get_or t 256 (pos 0))) i (λ e. h (q.is ∙ e))) y
