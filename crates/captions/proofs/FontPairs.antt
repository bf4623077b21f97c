-- A font's pairs are in range and ascend, by left and then by right, and so do those that finish.
-- Assumes nothing.
use mathlib.Core.Path.{◌≡◌, refl, sym, ap, ◌∙◌, subst}
use mathlib.Core.List.Memᴰ
use mathlib.Core.List.{List, [], ◌∷◌, ◌++◌, Memᴰ}
use mathlib.Core.Logic.{◌⊎◌, inl, inr}
use mathlib.Core.Option.{Option, none, some}
use Prim.Native.Nat.{ℕ, zero, suc, ◌<◌}
use native.Mathlib.Omega.{arith}
use lib.IntN.{ℤ}
use Rattle.reading.specs.Items.{Left}
use Rattle.reading.specs.Depth.{Res, Finished, Pair}
use Rattle.reading.specs.Loops.{Ruled}
use Rattle.fonts.specs.Fonts.{left_of, number_of_left, Font, index_of, ruled_by, row_pairs, left_pairs, pairs_of, table_of}
use Rattle.compiling.proofs.RowLaws.{number_left}
use Rattle.compiling.proofs.Sorted.{Pairwise, alone, first}
use Rattle.captions.proofs.Decoding.{Entry, one, kept}
use Rattle.captions.proofs.Forming.{place_of, Sooner, InRange}

-- ---- one list after another

after_by : {A : Type 0} (R : A → A → Type 0) (x v : A) (xs ys : List A) → ((y : A) → Memᴰ y xs → R x y) → ((y : A) → Memᴰ y ys → R x y) →
    Memᴰ v xs ⊎ Memᴰ v ys → R x v
after_by R x v xs ys g h (inl m) = g v m
after_by R x v xs ys g h (inr m) = h v m

pairwise_append : {A : Type 0} (R : A → A → Type 0) (xs ys : List A) → Pairwise R xs → Pairwise R ys → ((x y : A) → Memᴰ x xs → Memᴰ y ys → R x y) →
    Pairwise R (xs ++ ys)
pairwise_append R [] ys alone q h = q
pairwise_append R (x ∷ xs) ys (first g p) q h =
    first (λ v m. after_by R x v xs ys g (λ y l. h x y (Memᴰ.head refl) l) (Memᴰ.append_cases xs m))
    (pairwise_append R xs ys p q (λ a b l n. h a b (Memᴰ.tail l) n))

-- ---- a font's pairs

abbrev pub Earlier : Ruled → Ruled → Type 0
Earlier p q = place_of p.pair < place_of q.pair

-- a pair of a left, with a right below n
pub record OfRow (l : Left) (n : ℕ) (p : Pair) : Type 0 where
  pub left : p.left ≡ l
  pub right : p.right < n

-- a pair of one of the first t lefts
pub record OfLefts (t : ℕ) (p : Pair) : Type 0 where
  pub left : number_of_left p.left < t
  pub right : p.right < 256

module _ (s table : List ℤ) where
  ruled_of : (x : Ruled) (l : Left) (r : ℕ) (o : Option ℕ) → Memᴰ x (ruled_by l r o) → OfRow l (suc r) x.pair
  ruled_of x l r none m = absurd (Memᴰ.not-nil m)
  ruled_of x l r (some i) m =
      let e = Memᴰ.eq_of_singleton m in record { left = ap (λ (y : Ruled). y.pair.left) e; right = omega (arith, ap (λ (y : Ruled). y.pair.right) e) }

  row_cases : (x : Ruled) (l : Left) (n : ℕ) → (Memᴰ x (row_pairs s table l n) → OfRow l n x.pair) →
      Memᴰ x (row_pairs s table l n) ⊎ Memᴰ x (ruled_by l n (index_of s table l n)) → OfRow l (suc n) x.pair
  row_cases x l n k (inl m) = record { left = (k m).left; right = omega (arith, (k m).right) }
  row_cases x l n k (inr m) = ruled_of x l n (index_of s table l n) m

  row_of : (x : Ruled) (l : Left) (n : ℕ) → Memᴰ x (row_pairs s table l n) → OfRow l n x.pair
  unfolding row_pairs
  row_of x l zero m = absurd (Memᴰ.not-nil m)
  row_of x l (suc n) m = row_cases x l n (row_of x l n) (Memᴰ.append_cases (row_pairs s table l n) m)

  ruled_alone : (l : Left) (r : ℕ) (o : Option ℕ) → Pairwise Earlier (ruled_by l r o)
  ruled_alone l r none = alone
  ruled_alone l r (some i) = first (λ y m. absurd (Memᴰ.not-nil m)) alone

  one_after : (l : Left) (r : ℕ) (o : Option ℕ) (x y : Ruled) → OfRow l r x.pair → Memᴰ y (ruled_by l r o) → Earlier x y
  one_after l r none x y h m = absurd (Memᴰ.not-nil m)
  one_after l r (some i) x y h m =
      let e = Memᴰ.eq_of_singleton m in
      omega (arith, h.right, ap (λ (z : Ruled). z.pair.right) e, ap (λ (z : Ruled). number_of_left z.pair.left) e, ap number_of_left h.left)

  row_sorted : (l : Left) (n : ℕ) → Pairwise Earlier (row_pairs s table l n)
  unfolding row_pairs
  row_sorted l zero = alone
  row_sorted l (suc n) =
      pairwise_append Earlier (row_pairs s table l n) (ruled_by l n (index_of s table l n)) (row_sorted l n) (ruled_alone l n (index_of s table l n))
      (λ x y m k. one_after l n (index_of s table l n) x y (row_of x l n m) k)

  row_left : (t : ℕ) (p : Pair) → OfRow (left_of t) 256 p → number_of_left p.left ≡ t
  row_left t p h = ap number_of_left h.left ∙ number_left t

  left_cases : (x : Ruled) (t : ℕ) → (Memᴰ x (left_pairs s table t) → OfLefts t x.pair) →
      Memᴰ x (left_pairs s table t) ⊎ Memᴰ x (row_pairs s table (left_of t) 256) → OfLefts (suc t) x.pair
  left_cases x t k (inl m) = record { left = omega (arith, (k m).left); right = (k m).right }
  left_cases x t k (inr m) = let h = row_of x (left_of t) 256 m in record { left = omega (arith, row_left t x.pair h); right = h.right }

  left_of_lem : (x : Ruled) (t : ℕ) → Memᴰ x (left_pairs s table t) → OfLefts t x.pair
  unfolding left_pairs
  left_of_lem x zero m = absurd (Memᴰ.not-nil m)
  left_of_lem x (suc t) m = left_cases x t (left_of_lem x t) (Memᴰ.append_cases (left_pairs s table t) m)

  row_after : (t : ℕ) (x y : Ruled) → OfLefts t x.pair → OfRow (left_of t) 256 y.pair → Earlier x y
  row_after t x y h k = omega (arith, h.left, h.right, row_left t y.pair k)

  left_sorted : (t : ℕ) → Pairwise Earlier (left_pairs s table t)
  unfolding left_pairs
  left_sorted zero = alone
  left_sorted (suc t) =
      pairwise_append Earlier (left_pairs s table t) (row_pairs s table (left_of t) 256) (left_sorted t) (row_sorted (left_of t) 256)
      (λ x y m k. row_after t x y (left_of_lem x t m) (row_of y (left_of t) 256 k))

pub pairs_sorted : (f : Font) → Pairwise Earlier (pairs_of f)
pairs_sorted f = left_sorted f.instructions (table_of f) 257

pub pairs_ranged : (f : Font) (x : Ruled) → Memᴰ x (pairs_of f) → InRange x.pair
pairs_ranged f x m = let h = left_of_lem f.instructions (table_of f) x 257 m in record { left = h.left; right = h.right }

-- ---- those that finish

-- x is a pair of ps with its entry
pub record Finishes (f : Finished) (ps : List Ruled) (x : Entry) : Type 0 where
  pub ruled : Ruled
  pub member : Memᴰ ruled ps
  pub same : x.pair ≡ ruled.pair
  pub entered : f x.pair.left x.pair.right ≡ some x.res

module _ (f : Finished) where
  one_finishes : (p : Ruled) (ps : List Ruled) (o : Option Res) → f p.pair.left p.pair.right ≡ o → (x : Entry) → Memᴰ x (one p.pair o) →
      Finishes f (p ∷ ps) x
  one_finishes p ps none e x m = absurd (Memᴰ.not-nil m)
  one_finishes p ps (some q) e x m =
      let i = Memᴰ.eq_of_singleton m in
      record {
        ruled = p;
        member = Memᴰ.head refl;
        same = ap (λ (y : Entry). y.pair) i;
        entered = subst (λ (y : Entry). f y.pair.left y.pair.right ≡ some y.res) (sym i) e;
      }

  kept_cases : (p : Ruled) (ps : List Ruled) (x : Entry) → (Memᴰ x (kept f ps) → Finishes f ps x) →
      Memᴰ x (one p.pair (f p.pair.left p.pair.right)) ⊎ Memᴰ x (kept f ps) → Finishes f (p ∷ ps) x
  kept_cases p ps x k (inl m) = one_finishes p ps (f p.pair.left p.pair.right) refl x m
  kept_cases p ps x k (inr m) = let h = k m in record { ruled = h.ruled; member = Memᴰ.tail h.member; same = h.same; entered = h.entered }

  pub kept_finishes : (ps : List Ruled) (x : Entry) → Memᴰ x (kept f ps) → Finishes f ps x
  unfolding kept
  kept_finishes [] x m = absurd (Memᴰ.not-nil m)
  kept_finishes (p ∷ ps) x m = kept_cases p ps x (kept_finishes ps x) (Memᴰ.append_cases (one p.pair (f p.pair.left p.pair.right)) m)

  -- each pair that finishes is among them
  in_one : (p : Pair) (o : Option Res) (q : Res) → o ≡ some q → Memᴰ (record { pair = p; res = q }) (one p o)
  in_one p o q e = subst (λ (u : Option Res). Memᴰ (record { pair = p; res = q }) (one p u)) (sym e) (Memᴰ.head refl)

  kept_by : (x p : Ruled) (ps : List Ruled) (q : Res) → f x.pair.left x.pair.right ≡ some q →
      (Memᴰ x ps → Memᴰ (record { pair = x.pair; res = q }) (kept f ps)) → (x ≡ p) ⊎ Memᴰ x ps →
      Memᴰ (record { pair = x.pair; res = q }) (one p.pair (f p.pair.left p.pair.right) ++ kept f ps)
  kept_by x p ps q e k (inl i) =
      subst (λ (y : Ruled). Memᴰ (record { pair = x.pair; res = q }) (one y.pair (f y.pair.left y.pair.right) ++ kept f ps)) i
      (Memᴰ.append_left (kept f ps) (in_one x.pair (f x.pair.left x.pair.right) q e))
  kept_by x p ps q e k (inr m) = Memᴰ.append_right (one p.pair (f p.pair.left p.pair.right)) (k m)

  pub in_kept : (ps : List Ruled) (x : Ruled) (q : Res) → Memᴰ x ps → f x.pair.left x.pair.right ≡ some q →
      Memᴰ (record { pair = x.pair; res = q }) (kept f ps)
  unfolding kept
  in_kept [] x q m e = absurd (Memᴰ.not-nil m)
  in_kept (p ∷ ps) x q m e = kept_by x p ps q e (λ l. in_kept ps x q l e) (Memᴰ.cases_cons m)

  kept_after : (p : Ruled) (ps : List Ruled) (q : Res) (y : Entry) → ((z : Ruled) → Memᴰ z ps → Earlier p z) → Finishes f ps y →
      Sooner (record { pair = p.pair; res = q }) y
  kept_after p ps q y g h = omega (arith, g h.ruled h.member, ap place_of h.same)

  sorted_by : (p : Ruled) (ps : List Ruled) (o : Option Res) → ((y : Ruled) → Memᴰ y ps → Earlier p y) → Pairwise Sooner (kept f ps) →
      Pairwise Sooner (one p.pair o ++ kept f ps)
  sorted_by p ps none g s = s
  sorted_by p ps (some q) g s = first (λ y m. kept_after p ps q y g (kept_finishes ps y m)) s

  pub kept_sorted : (ps : List Ruled) → Pairwise Earlier ps → Pairwise Sooner (kept f ps)
  unfolding kept
  kept_sorted [] alone = alone
  kept_sorted (p ∷ ps) (first g s) = sorted_by p ps (f p.pair.left p.pair.right) g (kept_sorted ps s)
