-- A list in which each element is followed by the next of it, by a function, and the last by what is given. Assumes nothing.
use mathlib.Core.Path.{◌≡◌, refl, sym, ap, ◌∙◌}
use mathlib.Core.List.{List, [], ◌∷◌, ◌++◌, map}
use mathlib.Core.Option.{Option, none, some}
use Prim.Native.Nat.{ℕ, zero, suc, ◌+◌, ◌<◌}
use native.Mathlib.Omega.{arith}
use lib.ListN.{length, get_elem?}

-- the first of a list, else e
abbrev pub first_or : {A : Type 0} → List A → Option A → Option A
first_or [] e = e
first_or (x ∷ xs) e = some x

-- every element has a property
pub data Each {A : Type 0} (P : A → Type 0) : List A → Type 0 where
  no_one : Each P []
  one_more : {x : A} {xs : List A} → P x → Each P xs → Each P (x ∷ xs)

-- each is followed by the next, and the last by e
pub data Follows {A : Type 0} (next : A → Option A) (e : Option A) : List A → Type 0 where
  done : Follows next e []
  then : {x : A} {xs : List A} → next x ≡ first_or xs e → Follows next e xs → Follows next e (x ∷ xs)

module _ {A : Type 0} where
  pub first_append : (xs ys : List A) (e : Option A) → first_or (xs ++ ys) e ≡ first_or xs (first_or ys e)
  first_append [] ys e = refl
  first_append (x ∷ xs) ys e = refl

  pub follows_append : {next : A → Option A} {e : Option A} (xs ys : List A) → Follows next (first_or ys e) xs → Follows next e ys → Follows next e (xs ++ ys)
  follows_append [] ys done g = g
  follows_append {next} {e} (x ∷ xs) ys (then n f) g = then (n ∙ sym (first_append xs ys e)) (follows_append xs ys f g)

  pub each_append : {P : A → Type 0} (xs ys : List A) → Each P xs → Each P ys → Each P (xs ++ ys)
  each_append [] ys no_one g = g
  each_append (x ∷ xs) ys (one_more p f) g = one_more p (each_append xs ys f g)

  pub each_weaker : {P Q : A → Type 0} (xs : List A) → ((x : A) → P x → Q x) → Each P xs → Each Q xs
  each_weaker [] h no_one = no_one
  each_weaker (x ∷ xs) h (one_more p f) = one_more (h x p) (each_weaker xs h f)

  pub each_at : {P : A → Type 0} (xs : List A) (k : ℕ) (x : A) → Each P xs → get_elem? xs k ≡ some x → P x
  each_at [] k x no_one e = absurd (let z : ◌≡◌ {A = ℕ} 0 1 = cc in omega arith)
  each_at {P} (y ∷ xs) zero x (one_more p f) e = let q : y ≡ x = cc in rw q at p
  each_at (y ∷ xs) (suc k) x (one_more p f) e = each_at xs k x f e

module _ {A B : Type 0} where
  pub each_map : {P : A → Type 0} {Q : B → Type 0} (f : A → B) (xs : List A) → ((x : A) → P x → Q (f x)) → Each P xs → Each Q (map f xs)
  each_map f [] h no_one = no_one
  each_map f (x ∷ xs) h (one_more p g) = one_more (h x p) (each_map f xs h g)

  -- a list of values: what follows a value is the value of what follows, and the last is followed by e
  module _ (P : A → Type 0) (next : A → Option A) (next' : B → Option B) (e : Option B) (f : A → B)
      (on : (x y : A) → P x → next x ≡ some y → next' (f x) ≡ some (f y)) (ends : (x : A) → P x → next x ≡ none → next' (f x) ≡ e) where
    first-map : (xs : List A) (x : A) → P x → next x ≡ first_or xs none → next' (f x) ≡ first_or (map f xs) e
    first-map [] x p n = ends x p n
    first-map (y ∷ xs) x p n = on x y p n

    pub follows_map : (xs : List A) → Each P xs → Follows next none xs → Follows next' e (map f xs)
    follows_map [] no_one done = done
    follows_map (x ∷ xs) (one_more p ps) (then n c) = then (first-map xs x p n) (follows_map xs ps c)

module _ {A : Type 0} where
  -- the same list, by another function
  module _ (P : A → Type 0) (next next' : A → Option A) (e : Option A) (on : (x y : A) → P x → next x ≡ some y → next' x ≡ some y)
      (ends : (x : A) → P x → next x ≡ none → next' x ≡ e) where
    pub follows_by : (xs : List A) → Each P xs → Follows next none xs → Follows next' e xs
    follows_by [] no_one done = done
    follows_by (x ∷ []) (one_more p no_one) (then n done) = then (ends x p n) done
    follows_by (x ∷ y ∷ xs) (one_more p ps) (then n c) = then (on x y p n) (follows_by (y ∷ xs) ps c)

  -- the element after that at k stands at k + 1
  pub next_at : {next : A → Option A} (xs : List A) (k : ℕ) (x : A) → Follows next none xs → get_elem? xs k ≡ some x → next x ≡ get_elem? xs (suc k)
  next_at [] k x done e = absurd (let z : ◌≡◌ {A = ℕ} 0 1 = cc in omega arith)
  next_at {next} (y ∷ []) zero x (then n c) e = let q : y ≡ x = cc in ap next (sym q) ∙ n
  next_at {next} (y ∷ z ∷ xs) zero x (then n c) e = let q : y ≡ x = cc in ap next (sym q) ∙ n
  next_at (y ∷ xs) (suc k) x (then n c) e = next_at xs k x c e

  pub none_after : (xs : List A) (k : ℕ) → get_elem? xs k ≡ none → get_elem? xs (suc k) ≡ none
  none_after [] k e = refl
  none_after (x ∷ xs) zero e = absurd (let z : ◌≡◌ {A = ℕ} 0 1 = cc in omega arith)
  none_after (x ∷ []) (suc k) e = refl
  none_after (x ∷ y ∷ xs) (suc k) e = none_after (y ∷ xs) k e

  -- ---- an element of a joined list

  pub at_left : (xs ys : List A) (k : ℕ) (x : A) → get_elem? xs k ≡ some x → get_elem? (xs ++ ys) k ≡ some x
  at_left [] ys k x e = absurd (let z : ◌≡◌ {A = ℕ} 0 1 = cc in omega arith)
  at_left (y ∷ xs) ys zero x e = e
  at_left (y ∷ xs) ys (suc k) x e = at_left xs ys k x e

  pub at_right : (xs ys : List A) (k : ℕ) → (m : ℕ) × (get_elem? (xs ++ ys) m ≡ get_elem? ys k)
  at_right [] ys k = (k, refl)
  at_right (y ∷ xs) ys k = let r = at_right xs ys k in (suc r.0, r.1)

  -- ---- an order

  module _ (R : A → A → Type 0) (next : A → Option A) (rises : (x y : A) → next x ≡ some y → R x y) (join : (x y z : A) → R x y → R y z → R x z) where
    above-first : (x : A) (xs : List A) (k : ℕ) (y : A) → Follows next none (x ∷ xs) → get_elem? xs k ≡ some y → R x y
    above-first x [] k y (then n c) e = absurd (let z : ◌≡◌ {A = ℕ} 0 1 = cc in omega arith)
    above-first x (w ∷ xs) zero y (then n c) e = let q : w ≡ y = cc in rw q at (rises x w n)
    above-first x (w ∷ xs) (suc k) y (then n c) e = join x w y (rises x w n) (above-first w xs k y c e)

    pub rising : (xs : List A) (j k : ℕ) (x y : A) → Follows next none xs → j < k → get_elem? xs j ≡ some x → get_elem? xs k ≡ some y → R x y
    rising [] j k x y done l e f = absurd (let z : ◌≡◌ {A = ℕ} 0 1 = cc in omega arith)
    rising (w ∷ xs) j zero x y c l e f = absurd (omega arith)
    rising (w ∷ xs) zero (suc k) x y c l e f = let q : w ≡ x = cc in rw q at (above-first w xs k y c f)
    rising (w ∷ xs) (suc j) (suc k) x y (then n c) l e f = rising xs j k x y c (omega arith) e f

pub at_map : {A B : Type 0} (f : A → B) (xs : List A) (k : ℕ) (x : A) → get_elem? xs k ≡ some x → get_elem? (map f xs) k ≡ some (f x)
at_map f [] k x e = absurd (let z : ◌≡◌ {A = ℕ} 0 1 = cc in omega arith)
at_map f (y ∷ xs) zero x e = let q : y ≡ x = cc in ap (λ (w : _). some (f w)) q
at_map f (y ∷ xs) (suc k) x e = at_map f xs k x e
