-- Laws of lists that keep their length: numbers taken out and put in, one place more and all of them; and of a list that is filled up with zeros.
-- Assumes nothing.
use mathlib.Core.Path.{◌≡◌, refl, sym, ap, ◌∙◌}
use mathlib.Core.List.{List, ◌∷◌, ◌++◌}
use mathlib.Core.Logic.{◌⊎◌, inl, inr}
use Prim.Native.Nat.{ℕ, zero, suc, ◌+◌, ◌-◌, ◌<◌, ◌≤◌, min}
use native.Mathlib.Omega.{arith}
use lib.IntN.{ℤ, pos}
use lib.ListN.{length, get_or, set, take, drop, length-append, take-append-drop, drop_of_length-le}
use lib.Seq.{length-take-le, take-suc, take_at, take_all, take-length, get_or-append-add, get_or-drop}
use Rattle.words.specs.Words.{number_of, Word}
use Rattle.words.specs.Lists.{tabulate, Filling}
use Rattle.words.proofs.Bits.{number_is}
use Rattle.words.proofs.Tests.{less_or_not}
use Rattle.words.proofs.Lists.{length_tabulate, filling_length}
use Rattle.lang.proofs.Filled.{filling_put}
use Rattle.read_change.specs.Fitted.{without, with_two}

-- ---- a list by its places, and a list written front to back by another

abbrev pub at : List ℤ → ℕ → ℤ
at xs k = get_or xs k (pos 0)

tabulate_front : (xs : List ℤ) (n : ℕ) → n ≤ length xs → tabulate n (at xs) ≡ take n xs
unfolding tabulate
tabulate_front xs zero h = refl
tabulate_front xs (suc n) h = rw (tabulate_front xs n (omega arith)) (sym (take-suc xs n (pos 0) h))

-- a list that begins as l does is begun in l
begun : (xs l : List ℤ) (n : ℕ) → n ≤ length xs → n ≤ length l → take n xs ≡ take n l → Filling (at xs) l l n
begun xs l n h k e =
    record { within = k; filled = sym (ap (λ (t : List ℤ). t ++ drop n l) (tabulate_front xs n h ∙ e) ∙ take-append-drop n l) }

-- from the place that is to be written on, the list is as it came
ahead : (xs l d : List ℤ) (i n : ℕ) → Filling (at xs) l d i → at d (i + n) ≡ at l (i + n)
ahead xs l d i n f =
    rw f.filled
    (ap (λ (k : ℕ). at (tabulate i (at xs) ++ drop i l) (k + n)) (sym (length_tabulate i (at xs)))
    ∙ get_or-append-add (tabulate i (at xs)) (drop i l) n (pos 0) ∙ get_or-drop i l n (pos 0))

-- ---- a place or a number past the end is the end

least : (m n : ℕ) → (min m n ≡ m) ⊎ ((n ≤ m) × (min m n ≡ n))
least m n = go (less_or_not m n)
  where
    go : (m < n) ⊎ (n ≤ m) → (min m n ≡ m) ⊎ ((n ≤ m) × (min m n ≡ n))
    go (inl h) = inl (omega arith)
    go (inr h) = inr (omega arith)

take_least : (l : List ℤ) (m : ℕ) → take (min m (length l)) l ≡ take m l
take_least l m = go (least m (length l))
  where
    go : (min m (length l) ≡ m) ⊎ ((length l ≤ m) × (min m (length l) ≡ length l)) → take (min m (length l)) l ≡ take m l
    go (inl e) = rw e
    go (inr e) = rw e.1 (take-length l ∙ sym (take_all m l e.0))

drop_least : (l : List ℤ) (m n : ℕ) → drop (min m (length l) + min n (length l)) l ≡ drop (m + n) l
drop_least l m n = go (less_or_not (m + n) (length l))
  where
    go : (m + n < length l) ⊎ (length l ≤ m + n) → drop (min m (length l) + min n (length l)) l ≡ drop (m + n) l
    go (inl h) = ap (λ (k : ℕ). drop k l) (let e : min m (length l) + min n (length l) ≡ m + n = omega arith in e)
    go (inr h) = drop_of_length-le l {i = min m (length l) + min n (length l)} (omega arith) ∙ sym (drop_of_length-le l {i = m + n} h)

-- ---- numbers taken out

module _ (l : List ℤ) (place n : ℕ) (h : place ≤ length l) where
  abbrev shorter : List ℤ
  shorter = without place n l

  front : length (take place l) ≡ place
  front = length-take-le place l (omega arith)

  pub removing_none : Filling (at shorter) l l place
  removing_none =
      begun shorter l place (simp length-append (omega (arith, front))) (omega arith)
      (take_at (take place l) (drop (place + n) l) place front)

  shorter_at : (i : ℕ) → place ≤ i → at shorter i ≡ at l (i + n)
  shorter_at i k =
      let e : i ≡ length (take place l) + (i - place) = omega (arith, front) in
      let g : place + n + (i - place) ≡ i + n = omega arith in
      ap (at shorter) e ∙ get_or-append-add (take place l) (drop (place + n) l) (i - place) (pos 0)
      ∙ get_or-drop (place + n) l (i - place) (pos 0) ∙ ap (at l) g

  pub removing_more : {d : List ℤ} (d₁ : List ℤ) {i : ℕ} (w : ℕ) → Filling (at shorter) l d i → place ≤ i → i < length d → Word (at d (i + n)) w →
      d₁ ≡ set d i (number_of w) → Filling (at shorter) l d₁ (i + 1)
  removing_more {d} d₁ {i} w f k g r e =
      filling_put f (omega (arith, filling_length (at shorter) l f)) e (number_is r ∙ ahead shorter l d i n f ∙ sym (shorter_at i k))

-- ---- two numbers put in

module _ (l : List ℤ) (place : ℕ) (p q : ℤ) (h : place ≤ length l) where
  abbrev longer : List ℤ
  longer = with_two place p q l

  front_two : length (take place l) ≡ place
  front_two = length-take-le place l h

  longer_at : (i : ℕ) → at longer (place + i) ≡ at (p ∷ q ∷ drop place l) i
  longer_at i =
      ap (λ (k : ℕ). at longer (k + i)) (sym front_two) ∙ get_or-append-add (take place l) (p ∷ q ∷ drop place l) i (pos 0)

  pub inserting_none : Filling (at longer) l l place
  inserting_none =
      begun longer l place (simp length-append (omega (arith, front_two))) h (take_at (take place l) (p ∷ q ∷ drop place l) place front_two)

  pub first_is : p ≡ at longer place
  first_is = sym (longer_at 0) ∙ ap (at longer) (let e : place + 0 ≡ place = omega arith in e)

  pub second_is : q ≡ at longer (place + 1)
  second_is = sym (longer_at 1)

  pub third_is : {d : List ℤ} {i w : ℕ} → Filling (at longer) l d i → place ≤ i → Word (at d i) w → number_of w ≡ at longer (i + 1 + 1)
  third_is {d} {i} {w} f k r =
      let z : i + 0 ≡ i = omega arith in
      let e : place + suc (suc (i - place)) ≡ i + 1 + 1 = omega arith in
      let g : place + (i - place) ≡ i = omega arith in
      number_is r ∙ ap (at d) (sym z) ∙ ahead longer l d i 0 f ∙ ap (at l) z
      ∙ sym (ap (at longer) (sym e) ∙ longer_at (suc (suc (i - place))) ∙ get_or-drop place l (i - place) (pos 0) ∙ ap (at l) g)

  pub inserting_more : {d : List ℤ} (d₁ : List ℤ) {i : ℕ} (w : ℕ) → Filling (at longer) l d i → i < length d → number_of w ≡ at longer i →
      d₁ ≡ set d i (number_of w) → Filling (at longer) l d₁ (i + 1)
  inserting_more d₁ w f g r e = filling_put f (omega (arith, filling_length (at longer) l f)) e r
