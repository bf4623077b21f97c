-- Runs of stores in a list (`sets` of the logic's library), and a field of blanks that is written over.
-- Assumes nothing.
use mathlib.Core.Path.{◌≡◌, refl, sym, ap, ◌∙◌}
use mathlib.Core.List.{List, [], ◌∷◌, ◌++◌}
use Prim.Native.Nat.{ℕ, suc, ◌+◌, ◌-◌, ◌<◌, ◌≤◌}
use native.Mathlib.Omega.{arith}
use lib.ListN.{length, set, replicate, length-replicate, replicate-append-replicate}
use lib.Seq.{sets, set_comm, set-set}
use Rattle.words.proofs.Lists.{sets_append}

module _ {A : Type 0} where
  -- a store before a run of stores may come first
  set_first : (vs l : List A) (i k : ℕ) (v : A) → k < i → set (sets l i vs) k v ≡ sets (set l k v) i vs
  set_first [] l i k v h = refl
  set_first (x ∷ vs) l i k v h =
      set_first vs (set l i x) (suc i) k v (omega arith)
      ∙ ap (λ (t : List A). sets t (suc i) vs) (set_comm l i k x v (λ e. omega (arith, e)))

  -- .. and a run of them
  pub sets_first : (vs ws l : List A) (i k : ℕ) → k + length vs ≤ i → sets (sets l i ws) k vs ≡ sets (sets l k vs) i ws
  sets_first [] ws l i k h = refl
  sets_first (v ∷ vs) ws l i k h =
      ap (λ (t : List A). sets t (suc k) vs) (set_first ws l i k v (omega arith)) ∙ sets_first vs ws (set l k v) i (suc k) (omega arith)

  -- several more before a run
  pub sets_front : (vs ws l d d' : List A) (i k : ℕ) → d ≡ sets l i ws → k + length vs ≡ i → d' ≡ sets d k vs → d' ≡ sets l k (vs ++ ws)
  sets_front vs ws l d d' i k e p g =
      g ∙ ap (λ (t : List A). sets t k vs) e
      ∙ sets_first vs ws l i k (omega arith)
      ∙ ap (λ (j : ℕ). sets (sets l k vs) j ws) (sym p)
      ∙ sym (sets_append vs ws l k)

  -- one more before a run
  pub sets_before : (vs l d : List A) (i : ℕ) (v : A) → 0 < i → d ≡ sets l i vs → set d (i - 1) v ≡ sets l (i - 1) (v ∷ vs)
  sets_before vs l d i v h e =
      let s : suc (i - 1) ≡ i = omega arith in
      ap (λ (t : List A). set t (i - 1) v) e
      ∙ set_first vs l i (i - 1) v (omega arith)
      ∙ ap (λ (j : ℕ). sets (set l (i - 1) v) j vs) (sym s)

  -- several more after a run
  pub sets_after : (vs ws l d d' : List A) (i j : ℕ) → d ≡ sets l i vs → j ≡ i + length vs → d' ≡ sets d j ws → d' ≡ sets l i (vs ++ ws)
  sets_after vs ws l d d' i j e p g = g ∙ (λ x. sets (e x) (p x) ws) ∙ sym (sets_append vs ws l i)

  -- a run over another
  pub sets_again : (vs ws l : List A) (i : ℕ) → length vs ≡ length ws → sets (sets l i vs) i ws ≡ sets l i ws
  sets_again [] [] l i e = refl
  sets_again [] (w ∷ ws) l i e = absurd (omega arith)
  sets_again (v ∷ vs) [] l i e = absurd (omega arith)
  sets_again (v ∷ vs) (w ∷ ws) l i e =
      ap (λ (t : List A). sets t (suc i) ws) (set_first vs (set l i v) (suc i) i w (omega arith) ∙ ap (λ (t : List A). sets t (suc i) vs) (set-set l i v w))
      ∙ sets_again vs ws (set l i w) (suc i) (omega arith)

  -- a run that is there may be written again, and another over it
  pub sets_there : (vs l d : List A) (i : ℕ) → d ≡ sets l i vs → d ≡ sets d i vs
  sets_there vs l d i e = e ∙ sym (sets_again vs vs l i refl) ∙ ap (λ (t : List A). sets t i vs) (sym e)

  pub sets_over : (vs ws l d d' : List A) (i : ℕ) → length vs ≡ length ws → d ≡ sets l i vs → d' ≡ sets d i ws → d' ≡ sets l i ws
  sets_over vs ws l d d' i s e g = g ∙ ap (λ (t : List A). sets t i ws) e ∙ sets_again vs ws l i s

  -- the end of a run of n equal values, written over
  pub sets_end : (n : ℕ) (b : A) (vs l : List A) (i j : ℕ) → length vs ≤ n → j + length vs ≡ i + n →
      sets (sets l i (replicate n b)) j vs ≡ sets l i (replicate (n - length vs) b ++ vs)
  sets_end n b vs l i j h e =
      let s : n - length vs + length vs ≡ n = omega arith in
      let p : j ≡ i + length (replicate (n - length vs) b) = omega (arith, length-replicate (n - length vs) b) in
      let r : replicate n b ≡ replicate (n - length vs) b ++ replicate (length vs) b = ap (λ (k : ℕ). replicate k b) (sym s)
      ∙ sym (replicate-append-replicate (n - length vs) (length vs) b) in
      ap (λ (t : List A). sets (sets l i t) j vs) r
      ∙ ap (λ (t : List A). sets t j vs) (sets_append (replicate (n - length vs) b) (replicate (length vs) b) l i)
      ∙ ap (λ (k : ℕ). sets (sets (sets l i (replicate (n - length vs) b)) (i + length (replicate (n - length vs) b)) (replicate (length vs) b)) k vs) p
      ∙ sets_again (replicate (length vs) b) vs (sets l i (replicate (n - length vs) b)) (i + length (replicate (n - length vs) b))
      (length-replicate (length vs) b)
      ∙ sym (sets_append (replicate (n - length vs) b) vs l i)

  -- one equal value more
  pub sets_same : (n : ℕ) (b : A) (l d : List A) (i : ℕ) → d ≡ sets l i (replicate n b) → set d (i + n) b ≡ sets l i (replicate (n + 1) b)
  sets_same n b l d i e =
      let p : i + n ≡ i + length (replicate n b) = omega (arith, length-replicate n b) in
      sets_after (replicate n b) (b ∷ []) l d (set d (i + n) b) i (i + n) e p refl ∙ ap (sets l i) (replicate-append-replicate n 1 b)
