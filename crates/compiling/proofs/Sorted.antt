-- Sorting by the order of walks. The order is strict, and two sorted lists with the same members are equal, so a list of places in ascending
-- order, each once, is what insertion sort makes of them.
-- Assumes nothing.
use mathlib.Core.Path.{◌≡◌, refl, sym, ap, ap₂, ◌∙◌, subst}
use mathlib.Core.Bool.{Bool, true, false, cond, false≢true}
use mathlib.Core.List.Memᴰ
use mathlib.Core.List.{List, [], ◌∷◌, ◌++◌, Memᴰ}
use mathlib.Core.Logic.{◌⊎◌, inl, inr, ⊎_elim}
use Prim.Native.Nat.{ℕ, zero, suc, ◌<◌, ◌≤◌}
use native.Mathlib.Nat.{eq-or-lt_of_le, le_of_suc-le-suc}
use native.Mathlib.Omega.{arith}
use lib.Dec.{ltb, eqb}
use borrow.Author.Tests.{ltb-true, lt-ltb, eqb-true, eq-eqb, ne_eqb}
use Rattle.words.specs.Lists.{tabulate}
use Rattle.words.proofs.Tests.{less_or_not}
use Rattle.reading.specs.Items.{Left, bnd, chr}
use Rattle.reading.specs.Loops.{Ruled, same_left, left_before, walked_before, insert, ordered}
use Rattle.compiling.proofs.RowLaws.{mem_tabulate}

-- ---- the order of walks is strict

-- by one number, then by another
abbrev by_two : ℕ → ℕ → ℕ → ℕ → Bool
by_two a i b j = cond (eqb a b) (ltb i j) (ltb a b)

two_parts : (a i b j : ℕ) → by_two a i b j ≡ true → ((a ≡ b) × (i < j)) ⊎ (a < b)
two_parts a i b j e = go (eqb a b) refl e
  where
    go : (t : Bool) → eqb a b ≡ t → cond t (ltb i j) (ltb a b) ≡ true → ((a ≡ b) × (i < j)) ⊎ (a < b)
    go true s h = inl (eqb-true a b s, ltb-true i j h)
    go false s h = inr (ltb-true a b h)

two_same : (a i b j : ℕ) → a ≡ b → i < j → by_two a i b j ≡ true
two_same a i b j e h = rw (eq-eqb a b e, lt-ltb i j h)

two_less : (a i b j : ℕ) → a < b → by_two a i b j ≡ true
two_less a i b j h = rw (ne_eqb a b (λ e. omega arith), lt-ltb a b h)

two_on : (a i b j c k : ℕ) → by_two a i b j ≡ true → by_two b j c k ≡ true → by_two a i c k ≡ true
two_on a i b j c k e h = go (two_parts a i b j e) (two_parts b j c k h)
  where
    go : ((a ≡ b) × (i < j)) ⊎ (a < b) → ((b ≡ c) × (j < k)) ⊎ (b < c) → by_two a i c k ≡ true
    go (inl (s, l)) (inl (t, m)) = two_same a i c k (s ∙ t) (omega arith)
    go (inl (s, l)) (inr m) = two_less a i c k (omega arith)
    go (inr l) (inl (t, m)) = two_less a i c k (omega arith)
    go (inr l) (inr m) = two_less a i c k (omega arith)

-- by left, then by index
abbrev by_left : Left → ℕ → Left → ℕ → Bool
by_left l i m j = cond (same_left l m) (ltb i j) (left_before l m)

left_on : (l m o : Left) (i j k : ℕ) → by_left l i m j ≡ true → by_left m j o k ≡ true → by_left l i o k ≡ true
left_on bnd bnd bnd i j k e h = lt-ltb i k (omega (arith, ltb-true i j e, ltb-true j k h))
left_on bnd bnd (chr c) i j k e h = absurd (false≢true h)
left_on bnd (chr b) o i j k e h = absurd (false≢true e)
left_on (chr a) bnd bnd i j k e h = refl
left_on (chr a) bnd (chr c) i j k e h = absurd (false≢true h)
left_on (chr a) (chr b) bnd i j k e h = refl
left_on (chr a) (chr b) (chr c) i j k e h = two_on a i b j c k e h

left_itself : (l : Left) (i : ℕ) → by_left l i l i ≡ true → ⊥
left_itself bnd i e = omega (arith, ltb-true i i e)
left_itself (chr a) i e = go (two_parts a i a i e)
  where
    go : ((a ≡ a) × (i < i)) ⊎ (a < a) → ⊥
    go (inl (s, l)) = omega arith
    go (inr l) = omega arith

abbrev pub Before : Ruled → Ruled → Type 0
Before p q = walked_before p q ≡ true

abbrev pub Apart : Ruled → Ruled → Type 0
Apart p q = Before p q ⊎ Before q p

before_on : (p q r : Ruled) → Before p q → Before q r → Before p r
before_on p q r = left_on p.pair.left q.pair.left r.pair.left p.index q.index r.index

before_itself : (p : Ruled) → Before p p → ⊥
before_itself p = left_itself p.pair.left p.index

-- ---- a relation between each element of a list and each that follows it

pub data Pairwise {A : Type 0} (R : A → A → Type 0) : List A → Type 0 where
  alone : Pairwise R []
  first : {x : A} {xs : List A} → ((y : A) → Memᴰ y xs → R x y) → Pairwise R xs → Pairwise R (x ∷ xs)

last_by_lem : {A : Type 0} (R : A → A → Type 0) (x y v : A) {xs : List A} → R x y → ((z : A) → Memᴰ z xs → R x z) → Memᴰ v xs ⊎ Memᴰ v (y ∷ []) →
    R x v
last_by_lem R x y v s g (inl m) = g v m
last_by_lem R x y v s g (inr m) = subst (R x) (sym (Memᴰ.eq_of_singleton m)) s

pairwise_last : {A : Type 0} (R : A → A → Type 0) (y : A) {xs : List A} → Pairwise R xs → ((x : A) → Memᴰ x xs → R x y) → Pairwise R (xs ++ (y ∷ []))
pairwise_last R y alone h = first (λ v m. absurd (Memᴰ.not-nil m)) alone
pairwise_last R y (first {x = x} {xs = xs} g p) h =
    first (λ v m. last_by_lem R x y v (h x (Memᴰ.head refl)) g (Memᴰ.append_cases xs m)) (pairwise_last R y p (λ v m. h v (Memᴰ.tail m)))

-- a member of a table is the value at some place
pub tabulate_mem : {A : Type 0} (n : ℕ) (f : ℕ → A) (y : A) → Memᴰ y (tabulate n f) → (i : ℕ) × (i < n) × (y ≡ f i)
unfolding tabulate
tabulate_mem zero f y m = absurd (Memᴰ.not-nil m)
tabulate_mem (suc n) f y m = go (tabulate_mem n f y) (Memᴰ.append_cases (tabulate n f) m)
  where
    go : (Memᴰ y (tabulate n f) → (i : ℕ) × (i < n) × (y ≡ f i)) → Memᴰ y (tabulate n f) ⊎ Memᴰ y (f n ∷ []) → (i : ℕ) × (i < suc n) × (y ≡ f i)
    go k (inl l) = let t = k l in (t.0, omega (arith, t.1), t.2)
    go k (inr l) = (n, omega arith, Memᴰ.eq_of_singleton l)

pub pairwise_table : {A : Type 0} (R : A → A → Type 0) (n : ℕ) (f : ℕ → A) → ((i j : ℕ) → i < j → j < n → R (f i) (f j)) → Pairwise R (tabulate n f)
unfolding tabulate
pairwise_table R zero f g = alone
pairwise_table R (suc n) f g =
    pairwise_last R (f n) (pairwise_table R n f (λ i j h l. g i j h (omega arith)))
    (λ v m. let t = tabulate_mem n f v m in subst (λ z. R z (f n)) (sym t.2) (g t.0 n t.1 (omega arith)))

-- ---- two sorted lists with the same members are equal

module _ {A : Type 0} (R : A → A → Type 0) (itself : (x : A) → R x x → ⊥) (on : (x y z : A) → R x y → R y z → R x z) where
  same_first : (x y : A) {xs ys : List A} → ((v : A) → Memᴰ v xs → R x v) → ((v : A) → Memᴰ v ys → R y v) → (x ≡ y) ⊎ Memᴰ x ys →
      (y ≡ x) ⊎ Memᴰ y xs → x ≡ y
  same_first x y g h (inl e) s = e
  same_first x y g h (inr m) (inl e) = sym e
  same_first x y g h (inr m) (inr l) = absurd (itself x (on x y x (g y l) (h x m)))

  same_rest : (x y v : A) {xs ys : List A} → x ≡ y → ((u : A) → Memᴰ u xs → R x u) → Memᴰ v xs → (v ≡ y) ⊎ Memᴰ v ys → Memᴰ v ys
  same_rest x y v e g m (inl i) = absurd (itself x (subst (R x) (i ∙ sym e) (g v m)))
  same_rest x y v e g m (inr l) = l

  pub same_sorted : {xs ys : List A} → Pairwise R xs → Pairwise R ys → ((v : A) → Memᴰ v xs → Memᴰ v ys) →
      ((v : A) → Memᴰ v ys → Memᴰ v xs) → xs ≡ ys
  same_sorted alone alone f b = refl
  same_sorted alone (first {x = y} h q) f b = absurd (Memᴰ.not-nil (b y (Memᴰ.head refl)))
  same_sorted (first {x = x} g p) alone f b = absurd (Memᴰ.not-nil (f x (Memᴰ.head refl)))
  same_sorted (first {x = x} g p) (first {x = y} h q) f b =
      let e : x ≡ y = same_first x y g h (Memᴰ.cases_cons (f x (Memᴰ.head refl))) (Memᴰ.cases_cons (b y (Memᴰ.head refl))) in
      ap₂ ◌∷◌ e
      (same_sorted p q (λ v m. same_rest x y v e g m (Memᴰ.cases_cons (f v (Memᴰ.tail m))))
      (λ v m. same_rest y x v (sym e) h m (Memᴰ.cases_cons (b v (Memᴰ.tail m)))))

-- ---- insertion

module _ (v u w : Ruled) (us : List Ruled) where
  only_by : (b : Bool) → (Memᴰ v (insert u us) → (v ≡ u) ⊎ Memᴰ v us) → Memᴰ v (cond b (u ∷ w ∷ us) (w ∷ insert u us)) →
      (v ≡ u) ⊎ Memᴰ v (w ∷ us)
  only_by true k m = Memᴰ.cases_cons m
  only_by false k m = ⊎_elim (λ e. inr (Memᴰ.head e)) (λ l. ⊎_elim inl (λ i. inr (Memᴰ.tail i)) (k l)) (Memᴰ.cases_cons m)

  keeps_by : (b : Bool) → ((v ≡ u) ⊎ Memᴰ v us → Memᴰ v (insert u us)) → (v ≡ u) ⊎ Memᴰ v (w ∷ us) →
      Memᴰ v (cond b (u ∷ w ∷ us) (w ∷ insert u us))
  keeps_by true k (inl e) = Memᴰ.head e
  keeps_by true k (inr m) = Memᴰ.tail m
  keeps_by false k (inl e) = Memᴰ.tail (k (inl e))
  keeps_by false k (inr m) = ⊎_elim (λ e. Memᴰ.head e) (λ l. Memᴰ.tail (k (inr l))) (Memᴰ.cases_cons m)

insert_only : (v u : Ruled) (us : List Ruled) → Memᴰ v (insert u us) → (v ≡ u) ⊎ Memᴰ v us
unfolding insert
insert_only v u [] m = Memᴰ.cases_cons m
insert_only v u (w ∷ us) m = only_by v u w us (walked_before u w) (insert_only v u us) m

insert_keeps : (v u : Ruled) (us : List Ruled) → (v ≡ u) ⊎ Memᴰ v us → Memᴰ v (insert u us)
unfolding insert
insert_keeps v u [] m = ⊎_elim (λ e. Memᴰ.head e) (λ l. absurd (Memᴰ.not-nil l)) m
insert_keeps v u (w ∷ us) m = keeps_by v u w us (walked_before u w) (insert_keeps v u us) m

pub ordered_keeps : (v : Ruled) (us : List Ruled) → Memᴰ v us → Memᴰ v (ordered us)
unfolding ordered
ordered_keeps v [] m = m
ordered_keeps v (u ∷ us) m = insert_keeps v u (ordered us) (⊎_elim inl (λ l. inr (ordered_keeps v us l)) (Memᴰ.cases_cons m))

pub ordered_only : (v : Ruled) (us : List Ruled) → Memᴰ v (ordered us) → Memᴰ v us
unfolding ordered
ordered_only v [] m = m
ordered_only v (u ∷ us) m = ⊎_elim (λ e. Memᴰ.head e) (λ l. Memᴰ.tail (ordered_only v us l)) (insert_only v u (ordered us) m)

-- p comes before q and so before what q comes before
before_both : (p q v : Ruled) {qs : List Ruled} → Before p q → ((u : Ruled) → Memᴰ u qs → Before q u) → (v ≡ q) ⊎ Memᴰ v qs → Before p v
before_both p q v s g (inl e) = subst (Before p) (sym e) s
before_both p q v s g (inr m) = before_on p q v s (g v m)

before_one : (p q v : Ruled) {qs : List Ruled} → Before q p → ((u : Ruled) → Memᴰ u qs → Before q u) → (v ≡ p) ⊎ Memᴰ v qs → Before q v
before_one p q v s g (inl e) = subst (Before q) (sym e) s
before_one p q v s g (inr m) = g v m

other_way : (p q : Ruled) → walked_before p q ≡ false → Apart p q → Before q p
other_way p q e (inl h) = absurd (false≢true (sym e ∙ h))
other_way p q e (inr h) = h

sorted_by : (p q : Ruled) (qs : List Ruled) (b : Bool) → walked_before p q ≡ b → Apart p q → ((u : Ruled) → Memᴰ u qs → Before q u) → Pairwise Before qs →
    Pairwise Before (insert p qs) → Pairwise Before (cond b (p ∷ q ∷ qs) (q ∷ insert p qs))
sorted_by p q qs true e a g s t = first (λ v m. before_both p q v e g (Memᴰ.cases_cons m)) (first g s)
sorted_by p q qs false e a g s t = first (λ v m. before_one p q v (other_way p q e a) g (insert_only v p qs m)) t

insert_sorted : (p : Ruled) {qs : List Ruled} → Pairwise Before qs → ((q : Ruled) → Memᴰ q qs → Apart p q) → Pairwise Before (insert p qs)
unfolding insert
insert_sorted p alone h = first (λ v m. absurd (Memᴰ.not-nil m)) alone
insert_sorted p (first {x = q} {xs = qs} g s) h =
    sorted_by p q qs (walked_before p q) refl (h q (Memᴰ.head refl)) g s (insert_sorted p s (λ v m. h v (Memᴰ.tail m)))

pub ordered_sorted : {us : List Ruled} → Pairwise Apart us → Pairwise Before (ordered us)
unfolding ordered
ordered_sorted alone = alone
ordered_sorted (first {x = u} {xs = us} g s) = insert_sorted u (ordered_sorted s) (λ v m. g v (ordered_only v us m))

-- ---- a table of places in ascending order, each once, sorts a table

module _ (n : ℕ) (h : ℕ → Ruled) (t : ℕ → ℕ) (row : (s : ℕ) → s < n → t s < n) (sorted : (s : ℕ) → suc s < n → Before (h (t s)) (h (t (suc s))))
    (each : (k : ℕ) → k < n → (s : ℕ) × (s < n) × (t s ≡ k)) where
  later_by : (i j : ℕ) → suc j < n → (i < j → Before (h (t i)) (h (t j))) → (i ≡ j) ⊎ (i < j) → Before (h (t i)) (h (t (suc j)))
  later_by i j l g (inl e) = subst (λ z. Before (h (t z)) (h (t (suc j)))) (sym e) (sorted j l)
  later_by i j l g (inr m) = before_on (h (t i)) (h (t j)) (h (t (suc j))) (g m) (sorted j l)

  later : (i j : ℕ) → i < j → j < n → Before (h (t i)) (h (t j))
  later i zero m l = absurd (omega arith)
  later i (suc j) m l = later_by i j l (λ k. later i j k (omega arith)) (eq-or-lt_of_le (le_of_suc-le-suc m))

  apart_by : (a b : ℕ) → a < n → b < n → (a < b) ⊎ (b ≤ a) → (t a ≡ t b → ⊥) → Apart (h (t a)) (h (t b))
  apart_by a b k l (inl m) d = inl (later a b m l)
  apart_by a b k l (inr m) d = inr (later b a (go (eq-or-lt_of_le m)) k)
    where
      go : (b ≡ a) ⊎ (b < a) → b < a
      go (inl e) = absurd (d (ap t (sym e)))
      go (inr s) = s

  apart : (i j : ℕ) → i < j → j < n → Apart (h i) (h j)
  apart i j m l =
      let a = each i (omega arith) in
      let b = each j l in
      let ne : t a.0 ≡ t b.0 → ⊥ = λ e. let z : i ≡ j = sym a.2 ∙ e ∙ b.2 in omega arith in
      subst (λ z. Apart (h z) (h j)) a.2
      (subst (λ z. Apart (h (t a.0)) (h z)) b.2 (apart_by a.0 b.0 a.1 b.1 (less_or_not a.0 b.0) ne))

  to_row : (v : Ruled) → Memᴰ v (tabulate n (λ s. h (t s))) → Memᴰ v (tabulate n h)
  to_row v m =
      let a = tabulate_mem n (λ s. h (t s)) v m in
      Memᴰ.cast a.2 (mem_tabulate n h (t a.0) (row a.0 a.1))

  to_place : (v : Ruled) → Memᴰ v (tabulate n h) → Memᴰ v (tabulate n (λ s. h (t s)))
  to_place v m =
      let a = tabulate_mem n h v m in
      let b = each a.0 a.1 in
      Memᴰ.cast (a.2 ∙ ap h (sym b.2)) (mem_tabulate n (λ s. h (t s)) b.0 b.1)

  pub places_sort : ordered (tabulate n h) ≡ tabulate n (λ s. h (t s))
  places_sort =
      same_sorted Before before_itself before_on
      (ordered_sorted (pairwise_table Apart n h apart))
      (pairwise_table Before n (λ s. h (t s)) later)
      (λ v m. to_place v (ordered_only v (tabulate n h) m))
      (λ v m. ordered_keeps v (tabulate n h) (to_row v m))
