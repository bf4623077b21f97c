-- Laws of stores one after the other (`sets` of lib.Seq): one more from the front, and one into what is stored.
-- Assumes nothing.
use mathlib.Core.Path.{◌≡◌, refl, sym, ap, ◌∙◌}
use mathlib.Core.Bool.{cond}
use mathlib.Core.List.{List, [], ◌∷◌}
use mathlib.Core.Logic.{◌⊎◌, inl, inr}
use Prim.Native.Nat.{ℕ, zero, suc, ◌+◌, ◌<◌}
use native.Mathlib.Numerals.{add-one}
use native.Mathlib.Omega.{arith}
use lib.Dec.{eqb}
use lib.ListN.{length, get_or, set, length-set}
use lib.Seq.{sets, set-set, set_comm, get_or-set_same, get_or-set_other, ext_get_or}
use borrow.Author.Tests.{eq-eqb, ne_eqb}
use Rattle.words.specs.Lists.{tabulate}
use Rattle.words.proofs.Lists.{length_tabulate, get_d_tabulate}
use Rattle.words.proofs.Tests.{same_or_not}
use Rattle.words.proofs.Lists.{sets_append}

module _ {A : Type 0} where
  -- none is stored, and one more, by a function of the index
  pub stored_none : (l : List A) (f : ℕ → A) → l ≡ sets l 0 (tabulate 0 f)
  unfolding tabulate
  stored_none l f = refl

  pub stored_more : (l : List A) (f : ℕ → A) (i : ℕ) → set (sets l 0 (tabulate i f)) i (f i) ≡ sets l 0 (tabulate (i + 1) f)
  unfolding tabulate
  stored_more l f i =
      ap (λ (j : ℕ). set (sets l 0 (tabulate i f)) j (f i)) (omega (arith, length_tabulate i f))
      ∙ sym (sets_append (tabulate i f) (f i ∷ []) l 0)
      ∙ ap (λ (j : ℕ). sets l 0 (tabulate j f)) (sym (add-one i))

  -- a store before others can be made first
  set_first : (xs l : List A) (i j : ℕ) (v : A) → j < i → set (sets l i xs) j v ≡ sets (set l j v) i xs
  set_first [] l i j v h = refl
  set_first (x ∷ xs) l i j v h =
      set_first xs (set l i x) (suc i) j v (omega arith)
      ∙ ap (λ (m : List A). sets m (suc i) xs) (set_comm l i j x v (λ e. omega arith))

  -- a store among others changes what is stored there
  set_among : (xs l : List A) (i e : ℕ) (v : A) → e < length xs → set (sets l i xs) (i + e) v ≡ sets l i (set xs e v)
  set_among [] l i e v h = absurd (omega arith)
  set_among (x ∷ xs) l i zero v h =
      ap (λ (j : ℕ). set (sets (set l i x) (suc i) xs) j v) (omega arith)
      ∙ set_first xs (set l i x) (suc i) i v (omega arith)
      ∙ ap (λ (m : List A). sets m (suc i) xs) (set-set l i x v)
  set_among (x ∷ xs) l i (suc e) v h =
      ap (λ (j : ℕ). set (sets (set l i x) (suc i) xs) j v) (omega arith) ∙ set_among xs (set l i x) (suc i) e v (omega arith)

  -- of values by a function of the index
  set_tabulate : (n : ℕ) (f : ℕ → A) (e : ℕ) (v : A) → set (tabulate n f) e v ≡ tabulate n (λ i. cond (eqb e i) v (f i))
  set_tabulate n f e v =
      ext_get_or v (set (tabulate n f) e v) (tabulate n (λ i. cond (eqb e i) v (f i)))
      (sizes ∙ sym (length_tabulate n (λ i. cond (eqb e i) v (f i))))
      (λ i h. let l : i < n = omega (arith, sizes) in at i l (same_or_not e i) ∙ sym (get_d_tabulate n (λ i. cond (eqb e i) v (f i)) i v l))
    where
      sizes : length (set (tabulate n f) e v) ≡ n
      sizes = length-set (tabulate n f) e v ∙ length_tabulate n f

      at : (i : ℕ) → i < n → (e ≡ i) ⊎ (e ≡ i → ⊥) → get_or (set (tabulate n f) e v) i v ≡ cond (eqb e i) v (f i)
      at i l (inl h) =
          rw (eq-eqb e i h)
          (ap (λ (j : ℕ). get_or (set (tabulate n f) j v) i v) h ∙ get_or-set_same (tabulate n f) i v v (omega (arith, length_tabulate n f)))
      at i l (inr h) =
          rw (ne_eqb e i h)
          (get_or-set_other (tabulate n f) e i v v (λ k. h (sym k)) ∙ get_d_tabulate n f i v l)

  pub stored_set : (l : List A) (n : ℕ) (f : ℕ → A) (e : ℕ) (v : A) → e < n →
      set (sets l 0 (tabulate n f)) e v ≡ sets l 0 (tabulate n (λ i. cond (eqb e i) v (f i)))
  stored_set l n f e v h =
      ap (λ (j : ℕ). set (sets l 0 (tabulate n f)) j v) (omega arith)
      ∙ set_among (tabulate n f) l 0 e v (omega (arith, length_tabulate n f))
      ∙ ap (λ (m : List A). sets l 0 m) (set_tabulate n f e v)
