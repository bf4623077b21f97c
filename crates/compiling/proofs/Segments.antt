-- Stores in a row: what stands where they were made, what stands apart from them, and two runs of stores that follow or cover one another.
-- Assumes nothing.
use mathlib.Core.Path.{◌≡◌, refl, sym, ap, ◌∙◌, subst}
use mathlib.Core.List.{List, [], ◌∷◌, ◌++◌, append_assoc}
use mathlib.Core.Logic.{◌⊎◌, inl, inr}
use Prim.Native.Nat.{ℕ, suc, ◌+◌, ◌-◌, ◌<◌, ◌≤◌}
use native.Mathlib.Omega.{arith}
use lib.ListN.{length, get_or, take, drop, set, length-append, take-append-drop}
use lib.Seq.{length-take-le, drop-drop, drop-set-lt, drop-set-add, take-set-le, get_or-set_other, get_or-drop, get_or-take, get_or_at, set_at, take_at, drop_at, sets}
use lib.Seq.{length-sets, sets-eq}

-- ---- places apart

-- from one store on to those after it
later : (p n i k : ℕ) → (p + n ≤ i) ⊎ (i + suc k ≤ p) → (p + n ≤ suc i) ⊎ (suc i + k ≤ p)
later p n i k (inl h) = inl (omega arith)
later p n i k (inr h) = inr (omega arith)

first_apart : (p n i k : ℕ) → (p + n ≤ i) ⊎ (i + suc k ≤ p) → (p + n ≤ i) ⊎ (i < p)
first_apart p n i k (inl h) = inl h
first_apart p n i k (inr h) = inr (omega arith)

one_place : (p i k : ℕ) → (p + 1 ≤ i) ⊎ (i + suc k ≤ p) → p ≡ i → ⊥
one_place p i k (inl h) e = omega arith
one_place p i k (inr h) e = omega arith

module _ {A : Type 0} where
  -- an element apart from the stores
  pub get_d_apart : (l : List A) (i : ℕ) (vs : List A) (p : ℕ) (d : A) → (p + 1 ≤ i) ⊎ (i + length vs ≤ p) → get_or (sets l i vs) p d ≡ get_or l p d
  get_d_apart l i [] p d h = refl
  get_d_apart l i (a ∷ vs) p d h = get_d_apart (set l i a) (suc i) vs p d (later p 1 i (length vs) h) ∙ get_or-set_other l i p a d (one_place p i (length vs) h)

  part_add : (n p : ℕ) (l : List A) (k : ℕ) (a : A) → n ≤ k → take n (drop p (set l (p + k) a)) ≡ take n (drop p l)
  part_add n p l k a h = rw (drop-set-add p l k a) (take-set-le n (drop p l) k a h)

  part_set : (n p : ℕ) (l : List A) (i : ℕ) (a : A) → (p + n ≤ i) ⊎ (i < p) → take n (drop p (set l i a)) ≡ take n (drop p l)
  part_set n p l i a (inl h) =
      let e : p + (i - p) ≡ i = omega arith in
      subst (λ (j : ℕ). take n (drop p (set l j a)) ≡ take n (drop p l)) e (part_add n p l (i - p) a (omega arith))
  part_set n p l i a (inr h) = ap (λ (r : List A). take n r) (drop-set-lt p l i a h)

  -- a part apart from the stores
  pub part_apart : (n p : ℕ) (l : List A) (i : ℕ) (vs : List A) → (p + n ≤ i) ⊎ (i + length vs ≤ p) → take n (drop p (sets l i vs)) ≡ take n (drop p l)
  part_apart n p l i [] h = refl
  part_apart n p l i (a ∷ vs) h = part_apart n p (set l i a) (suc i) vs (later p n i (length vs) h) ∙ part_set n p l i a (first_apart p n i (length vs) h)

  -- what stands after the stores
  pub drop_after : (q : ℕ) (l : List A) (i : ℕ) (vs : List A) → i + length vs ≤ q → drop q (sets l i vs) ≡ drop q l
  drop_after q l i [] h = refl
  drop_after q l i (a ∷ vs) h = drop_after q (set l i a) (suc i) vs (omega arith) ∙ drop-set-lt q l i a (omega arith)

  -- what stands where the stores were made
  pub part_stored : (l : List A) (i : ℕ) (vs : List A) → i + length vs ≤ length l → take (length vs) (drop i (sets l i vs)) ≡ vs
  part_stored l i vs h =
      ap (λ (r : List A). take (length vs) (drop i r)) (sets-eq vs l i h ∙ append_assoc (take i l) vs (drop (i + length vs) l))
      ∙ ap (λ (r : List A). take (length vs) r) (drop_at (take i l) (vs ++ drop (i + length vs) l) i (length-take-le i l (omega arith)))
      ∙ take_at vs (drop (i + length vs) l) (length vs) refl

  -- an element of what stands from place p on
  pub part_at : (l : List A) (p : ℕ) (xs : List A) (y : A) (ys : List A) (d : A) → take (length (xs ++ (y ∷ ys))) (drop p l) ≡ xs ++ (y ∷ ys) →
      get_or l (p + length xs) d ≡ y
  part_at l p xs y ys d s =
      let h : length xs < length (xs ++ (y ∷ ys)) = rw (length-append xs (y ∷ ys)) (omega arith) in
      sym (get_or-drop p l (length xs) d)
      ∙ sym (get_or-take (length (xs ++ (y ∷ ys))) (drop p l) (length xs) d h)
      ∙ ap (λ (r : List A). get_or r (length xs) d) s
      ∙ get_or_at xs y ys d (length xs) refl

  -- ---- two runs of stores

  -- one over the other
  pub sets_over : (l : List A) (i : ℕ) (vs us : List A) → length vs ≡ length us → i + length us ≤ length l → sets (sets l i vs) i us ≡ sets l i us
  sets_over l i vs us e h =
      let k : i + length us ≤ length (sets l i vs) = omega (arith, length-sets l i vs) in
      sets-eq us (sets l i vs) i k
      ∙ ap (λ (r : List A). r ++ us ++ drop (i + length us) (sets l i vs)) (part_apart i 0 l i vs (inl (omega arith)))
      ∙ ap (λ (r : List A). take i l ++ us ++ r) (drop_after (i + length us) l i vs (omega arith))
      ∙ sym (sets-eq us l i h)

  -- ---- stores over what stands there

  -- the whole, by the part that stands from place p on
  whole : (l : List A) (p : ℕ) (vs : List A) → take (length vs) (drop p l) ≡ vs → l ≡ take p l ++ (vs ++ drop (p + length vs) l)
  whole l p vs s =
      sym (take-append-drop p l)
      ∙ ap (λ (r : List A). take p l ++ r)
      (sym (take-append-drop (length vs) (drop p l)) ∙ ap (λ (r : List A). r ++ drop (length vs) (drop p l)) s
      ∙ ap (λ (r : List A). vs ++ r) (drop-drop (length vs) p l))

  -- the same again
  pub sets_same : (l : List A) (p : ℕ) (vs : List A) → take (length vs) (drop p l) ≡ vs → p + length vs ≤ length l → sets l p vs ≡ l
  sets_same l p vs s h = sets-eq vs l p h ∙ append_assoc (take p l) vs (drop (p + length vs) l) ∙ sym (whole l p vs s)

  -- one element of it another
  pub set_within : (l : List A) (p : ℕ) (xs : List A) (y z : A) (ys : List A) → take (length (xs ++ (y ∷ ys))) (drop p l) ≡ xs ++ (y ∷ ys) →
      p + length (xs ++ (y ∷ ys)) ≤ length l → set l (p + length xs) z ≡ sets l p (xs ++ (z ∷ ys))
  set_within l p xs y z ys s h =
      let b = take p l in
      let d = drop (p + length (xs ++ (y ∷ ys))) l in
      let same : length (xs ++ (y ∷ ys)) ≡ length (xs ++ (z ∷ ys)) = length-append xs (y ∷ ys) ∙ sym (length-append xs (z ∷ ys)) in
      let e : length (b ++ xs) ≡ p + length xs = length-append b xs ∙ ap (λ (n : ℕ). n + length xs) (length-take-le p l (omega arith)) in
      let f : b ++ (xs ++ (y ∷ ys) ++ d) ≡ (b ++ xs) ++ (y ∷ (ys ++ d)) = simp append_assoc in
      let g : (b ++ xs) ++ (z ∷ (ys ++ d)) ≡ b ++ (xs ++ (z ∷ ys)) ++ d = simp append_assoc in
      ap (λ (r : List A). set r (p + length xs) z) (whole l p (xs ++ (y ∷ ys)) s ∙ f)
      ∙ set_at (b ++ xs) y (ys ++ d) z (p + length xs) e
      ∙ g
      ∙ ap (λ (n : ℕ). b ++ (xs ++ (z ∷ ys)) ++ drop (p + n) l) same
      ∙ sym (sets-eq (xs ++ (z ∷ ys)) l p (omega arith))
