-- Counting the members of a list that pass a test. Where what passes one test passes another too, the second counts more, or the two
-- agree on the whole list.
-- Assumes nothing.
use mathlib.Core.Path.{◌≡◌, refl, sym, ◌∙◌, ap}
use mathlib.Core.Bool.{Bool, true, false, cond, false≢true}
use mathlib.Core.List.Memᴰ
use mathlib.Core.List.{List, [], ◌∷◌, Memᴰ}
use mathlib.Core.Logic.{◌⊎◌, inl, inr}
use Prim.Native.Nat.{ℕ, zero, suc, ◌≤◌, ◌<◌, zero-le, suc-le-suc}
use native.Mathlib.Omega.{arith}
use lib.ListN.{length}

unfoldable pub count : {A : Type 0} → (A → Bool) → List A → ℕ
count t [] = zero
count t (x ∷ xs) = cond (t x) (suc (count t xs)) (count t xs)

pub count_all : {A : Type 0} (t : A → Bool) (xs : List A) → count t xs ≤ length xs
unfolding count
count_all t [] = zero-le
count_all t (x ∷ xs) = one (t x) (count_all t xs)
  where
    one : (b : Bool) {m n : ℕ} → m ≤ n → cond b (suc m) m ≤ suc n
    one true h = suc-le-suc h
    one false h = omega arith

-- one test against a weaker one
pub record Grown {A : Type 0} (s t : A → Bool) (xs : List A) : Type 0 where
  pub least : count s xs ≤ count t xs
  pub less : (count s xs < count t xs) ⊎ ((x : A) → Memᴰ x xs → s x ≡ t x)

module _ {A : Type 0} (s t : A → Bool) where
  agree_cons : {x : A} {xs : List A} → s x ≡ t x → ((y : A) → Memᴰ y xs → s y ≡ t y) → (y : A) → (y ≡ x) ⊎ Memᴰ y xs → s y ≡ t y
  agree_cons e g y (inl i) = ap s i ∙ e ∙ ap t (sym i)
  agree_cons e g y (inr m) = g y m

  less_cons : {x : A} {xs : List A} {m n : ℕ} → s x ≡ t x → (count s xs < count t xs → m < n) →
      (count s xs < count t xs) ⊎ ((y : A) → Memᴰ y xs → s y ≡ t y) → (m < n) ⊎ ((y : A) → Memᴰ y (x ∷ xs) → s y ≡ t y)
  less_cons e k (inl h) = inl (k h)
  less_cons e k (inr g) = inr (λ y m. agree_cons e g y (Memᴰ.cases_cons m))

  grown_cons : (x : A) (xs : List A) (b c : Bool) → s x ≡ b → t x ≡ c → (b ≡ true → c ≡ true) → Grown s t xs → Grown s t (x ∷ xs)
  unfolding count
  grown_cons x xs true true e f w g = record { least = rw (e, f) (suc-le-suc g.least); less = rw (e, f) (less_cons (e ∙ sym f) suc-le-suc g.less) }
  grown_cons x xs true false e f w g = absurd (false≢true (w refl))
  grown_cons x xs false true e f w g = record { least = rw (e, f) (omega arith); less = rw (e, f) (inl (suc-le-suc g.least)) }
  grown_cons x xs false false e f w g = record { least = rw (e, f) g.least; less = rw (e, f) (less_cons (e ∙ sym f) (λ h. h) g.less) }

  pub grown : ((x : A) → s x ≡ true → t x ≡ true) → (xs : List A) → Grown s t xs
  unfolding count
  grown w [] = record { least = zero-le; less = inr (λ x m. absurd (Memᴰ.not-nil m)) }
  grown w (x ∷ xs) = grown_cons x xs (s x) (t x) refl refl (w x) (grown w xs)
