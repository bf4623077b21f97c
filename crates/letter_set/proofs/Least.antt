-- The least number that passes a test: by the numbers before it that fail, and what it says of them.
-- Assumes nothing.
use mathlib.Core.Path.{◌≡◌, refl, sym, ap, ◌∙◌}
use mathlib.Core.Bool.{Bool, true, false, cond}
use mathlib.Core.Logic.{◌⊎◌, inl, inr}
use mathlib.Core.Option.{Option, none, some}
use Prim.Native.Nat.{ℕ, zero, suc, ◌+◌, ◌<◌, ◌≤◌}
use native.Mathlib.Nat.{eq-or-lt_of_le, add-zero}
use native.Mathlib.Omega.{arith}
use Rattle.letter_set.specs.LetterSets.{least_from}

-- what is found from c on, and that what is before it fails
pub record Found (p : ℕ → Bool) (n c x : ℕ) : Type 0 where
  pub passes : p x ≡ true
  pub from : c ≤ x
  pub below : x < c + n
  pub fail : (y : ℕ) → c ≤ y → y < x → p y ≡ false

module _ (p : ℕ → Bool) where
  pub least_zero : (c : ℕ) → least_from 0 c p ≡ none
  unfolding least_from
  least_zero c = refl

  pub least_suc : (n c : ℕ) → least_from (suc n) c p ≡ cond (p c) (some c) (least_from n (suc c) p)
  unfolding least_from
  least_suc n c = refl

  -- it passes
  pub least_here : (n c : ℕ) → p c ≡ true → least_from (suc n) c p ≡ some c
  least_here n c e = least_suc n c ∙ ap (λ (t : Bool). cond t (some c) (least_from n (suc c) p)) e

  -- one that fails is passed over
  pub least_next : (n c : ℕ) → p c ≡ false → least_from (suc n) c p ≡ least_from n (suc c) p
  least_next n c e = least_suc n c ∙ ap (λ (t : Bool). cond t (some c) (least_from n (suc c) p)) e

  -- m that fail
  pub least_skip : (m n c : ℕ) → ((y : ℕ) → c ≤ y → y < c + m → p y ≡ false) → least_from (m + n) c p ≡ least_from n (c + m) p
  least_skip zero n c h = let q : c ≡ c + 0 = omega arith in let r : 0 + n ≡ n = omega arith in rw r (ap (λ (k : ℕ). least_from n k p) q)
  least_skip (suc m) n c h =
      let q : suc m + n ≡ suc (m + n) = omega arith in
      let r : suc c + m ≡ c + suc m = omega arith in
      ap (λ (k : ℕ). least_from k c p) q
      ∙ least_next (m + n) c (h c (omega arith) (omega arith))
      ∙ least_skip m n (suc c) (λ y l k. h y (omega arith) (omega arith))
      ∙ ap (λ (k : ℕ). least_from n k p) r

  -- all that are asked fail
  pub least_none : (n c : ℕ) → ((y : ℕ) → c ≤ y → y < c + n → p y ≡ false) → least_from n c p ≡ none
  least_none n c h = ap (λ (k : ℕ). least_from k c p) (sym (add-zero n)) ∙ least_skip n 0 c h ∙ least_zero (c + n)

  -- ---- and back

  fail_by : (n c x : ℕ) → p c ≡ false → Found p n (suc c) x → (y : ℕ) → (c ≡ y) ⊎ (c < y) → y < x → p y ≡ false
  fail_by n c x e h y (inl q) k = ap p (sym q) ∙ e
  fail_by n c x e h y (inr q) k = h.fail y q k

  found_by_lem : (n c x : ℕ) (t : Bool) → p c ≡ t → cond t (some c) (least_from n (suc c) p) ≡ some x → (least_from n (suc c) p ≡ some x → Found p n (suc c) x) →
      Found p (suc n) c x
  found_by_lem n c x true e g f =
      let q : c ≡ x = cc in
      record { passes = ap p (sym q) ∙ e; from = omega arith; below = omega arith; fail = λ y l k. absurd (omega arith) }
  found_by_lem n c x false e g f =
      let h = f g in
      record {
        passes = h.passes;
        from = omega (arith, h.from);
        below = omega (arith, h.below);
        fail = λ y l k. fail_by n c x e h y (eq-or-lt_of_le l) k;
      }

  pub found : (n c x : ℕ) → least_from n c p ≡ some x → Found p n c x
  found zero c x e = absurd (let q = sym (least_zero c) ∙ e in let z : ◌≡◌ {A = ℕ} 0 1 = cc in omega arith)
  found (suc n) c x e = found_by_lem n c x (p c) refl (sym (least_suc n c) ∙ e) (found n (suc c) x)

  failed_by : (n c y : ℕ) (t : Bool) → p c ≡ t → cond t (some c) (least_from n (suc c) p) ≡ none → (c ≡ y) ⊎ (c < y) →
      (least_from n (suc c) p ≡ none → c < y → p y ≡ false) → p y ≡ false
  failed_by n c y true e g s f = absurd (let z : ◌≡◌ {A = ℕ} 0 1 = cc in omega arith)
  failed_by n c y false e g (inl q) f = ap p (sym q) ∙ e
  failed_by n c y false e g (inr q) f = f g q

  -- where nothing is found, each fails
  pub failed : (n c : ℕ) → least_from n c p ≡ none → (y : ℕ) → c ≤ y → y < c + n → p y ≡ false
  failed zero c e y l k = absurd (omega arith)
  failed (suc n) c e y l k =
      failed_by n c y (p c) refl (sym (least_suc n c) ∙ e) (eq-or-lt_of_le l) (λ g q. failed n (suc c) g y q (omega arith))
