-- A search by halves: however many halvings there is room for, as long as there are enough; turn by turn; and over keys that ascend it finds the place of a
-- key. Assumes nothing.
use mathlib.Core.Path.{◌≡◌, refl, sym, ap, ◌∙◌}
use mathlib.Core.Bool.{Bool, true, false, cond}
use mathlib.Core.Logic.{◌⊎◌, inl, inr}
use mathlib.Core.Option.{Option, none, some}
use Prim.Native.Nat.{ℕ, zero, suc, ◌+◌, ◌-◌, ◌/◌, ◌<◌, ◌≤◌}
use native.Mathlib.Nat.{eq-or-lt_of_le}
use native.Mathlib.Numerals.{add-one}
use native.Mathlib.Omega.{arith}
use lib.Dec.{ltb, eqb}
use borrow.Author.Tests.{ltb-true, ltb-false, lt-ltb, le-ltb, eq-eqb, ne_eqb, eqb-true}
use Rattle.words.proofs.Tests.{less_or_not}
use Rattle.lang.specs.Every.{both}
use Rattle.lang.specs.Bisection.{bisect, bisected, found_by}

abbrev half : ℕ → ℕ → ℕ
half lo hi = lo + (hi - lo) / 2

module _ (key : ℕ → ℕ) (w : ℕ) where
  -- a search that has come to its end
  ended : (n lo hi : ℕ) → hi ≤ lo → bisect key w n lo hi ≡ lo
  unfolding bisect
  ended zero lo hi h = refl
  ended (suc n) lo hi h = rw (le-ltb lo hi h)

  -- one halving
  upper_half : (n lo hi : ℕ) → lo < hi → key (half lo hi) < w → bisect key w (suc n) lo hi ≡ bisect key w n (half lo hi + 1) hi
  unfolding bisect
  upper_half n lo hi h k = rw (lt-ltb lo hi h, lt-ltb (key (half lo hi)) w k, add-one)

  lower_half : (n lo hi : ℕ) → lo < hi → w ≤ key (half lo hi) → bisect key w (suc n) lo hi ≡ bisect key w n lo (half lo hi)
  unfolding bisect
  lower_half n lo hi h k = rw (lt-ltb lo hi h, le-ltb (key (half lo hi)) w k)

  -- two numbers of halvings, each enough
  enough_by : (n m lo hi : ℕ) (s t : Bool) → ltb lo hi ≡ s → ltb (key (half lo hi)) w ≡ t → hi - lo ≤ suc n → hi - lo ≤ suc m →
      ((l h : ℕ) → h - l ≤ n → h - l ≤ m → bisect key w n l h ≡ bisect key w m l h) → bisect key w (suc n) lo hi ≡ bisect key w (suc m) lo hi
  enough_by n m lo hi true true a b h k f =
      let l = ltb-true lo hi a in
      let q = ltb-true (key (half lo hi)) w b in
      upper_half n lo hi l q ∙ f (half lo hi + 1) hi (omega arith) (omega arith) ∙ sym (upper_half m lo hi l q)
  enough_by n m lo hi true false a b h k f =
      let l = ltb-true lo hi a in
      let q = ltb-false (key (half lo hi)) w b in
      lower_half n lo hi l q ∙ f lo (half lo hi) (omega arith) (omega arith) ∙ sym (lower_half m lo hi l q)
  enough_by n m lo hi false t a b h k f =
      let l = ltb-false lo hi a in
      ended (suc n) lo hi l ∙ sym (ended (suc m) lo hi l)

  pub bisect_enough : (n m lo hi : ℕ) → hi - lo ≤ n → hi - lo ≤ m → bisect key w n lo hi ≡ bisect key w m lo hi
  bisect_enough zero m lo hi h k = ended zero lo hi (omega arith) ∙ sym (ended m lo hi (omega arith))
  bisect_enough (suc n) zero lo hi h k = ended (suc n) lo hi (omega arith) ∙ sym (ended zero lo hi (omega arith))
  bisect_enough (suc n) (suc m) lo hi h k =
      enough_by n m lo hi (ltb lo hi) (ltb (key (half lo hi)) w) refl refl h k (bisect_enough n m)

-- ---- turn by turn

-- the search among the first c places goes on between lo and hi
pub record Bisecting (key : ℕ → ℕ) (c w lo hi : ℕ) : Type 0 where
  pub order : lo ≤ hi
  pub within : hi ≤ c
  pub goes : (n : ℕ) → hi - lo ≤ n → bisect key w n lo hi ≡ bisected key c w

module _ (key : ℕ → ℕ) (c w : ℕ) where
  pub bisecting_all : Bisecting key c w 0 c
  bisecting_all = record { order = omega arith; within = omega arith; goes = λ n h. bisect_enough key w n c 0 c h (omega arith) }

  module _ (lo hi : ℕ) (s : Bisecting key c w lo hi) where
    pub bisecting_up : lo < hi → key (half lo hi) < w → Bisecting key c w (half lo hi + 1) hi
    bisecting_up h k =
        record {
          order = omega arith;
          within = s.within;
          goes = λ n l. bisect_enough key w n hi (half lo hi + 1) hi l (omega arith) ∙ sym (upper_half key w hi lo hi h k) ∙ s.goes (suc hi) (omega arith);
        }

    pub bisecting_down : lo < hi → w ≤ key (half lo hi) → Bisecting key c w lo (half lo hi)
    bisecting_down h k =
        record {
          order = omega arith;
          within = omega (arith, s.within);
          goes = λ n l. bisect_enough key w n hi lo (half lo hi) l (omega arith) ∙ sym (lower_half key w hi lo hi h k) ∙ s.goes (suc hi) (omega arith);
        }

    pub bisect_ended : hi ≤ lo → bisected key c w ≡ lo
    bisect_ended h = sym (s.goes 0 (omega arith)) ∙ ended key w 0 lo hi h

    pub bisect_found : hi ≤ lo → lo < c → key lo ≡ w → found_by key c w ≡ some lo
    bisect_found h l e = rw (bisect_ended h, lt-ltb lo c l, eq-eqb (key lo) w e)

    pub bisect_other : hi ≤ lo → lo < c → (key lo ≡ w → ⊥) → found_by key c w ≡ none
    bisect_other h l e = rw (bisect_ended h, lt-ltb lo c l, ne_eqb (key lo) w e)

    pub bisect_past : hi ≤ lo → c ≤ lo → found_by key c w ≡ none
    bisect_past h l = rw (bisect_ended h, le-ltb lo c l)

-- ---- over keys that ascend

-- the keys of the first c places ascend
abbrev pub Ascends : (ℕ → ℕ) → ℕ → Type 0
Ascends key c = (i j : ℕ) → i < j → j < c → key i < key j

module _ (key : ℕ → ℕ) (c : ℕ) (up : Ascends key c) (k : ℕ) (below : k < c) where
  -- a place whose key comes before that of k is before k, and any other is not
  is_before : (m : ℕ) → m < c → key m < key k → (m < k) ⊎ (k ≤ m) → m < k
  is_before m l s (inl h) = h
  is_before m l s (inr h) = absurd (not-before (eq-or-lt_of_le h))
    where
      not-before : (k ≡ m) ⊎ (k < m) → ⊥
      not-before (inl e) = let z : key k ≡ key m = ap key e in omega arith
      not-before (inr i) = omega (arith, up k m i l)

  is_after : (m : ℕ) → key k ≤ key m → (m < k) ⊎ (k ≤ m) → k ≤ m
  is_after m s (inl h) = absurd (omega (arith, up m k h below))
  is_after m s (inr h) = h

  -- one halving
  halve_by : (lo hi mid u d : ℕ) (s t : Bool) → ltb lo hi ≡ s → ltb (key mid) (key k) ≡ t → (hi ≤ lo → lo ≡ k) → (lo < hi → mid < k → u ≡ k) →
      (lo < hi → k ≤ mid → d ≡ k) → (lo < hi → mid < c) → cond s (cond t u d) lo ≡ k
  halve_by lo hi mid u d true true e i f g h m =
      let l = ltb-true lo hi e in
      g l (is_before mid (m l) (ltb-true (key mid) (key k) i) (less_or_not mid k))
  halve_by lo hi mid u d true false e i f g h m = h (ltb-true lo hi e) (is_after mid (ltb-false (key mid) (key k) i) (less_or_not mid k))
  halve_by lo hi mid u d false t e i f g h m = f (ltb-false lo hi e)

  ends_at : (n lo hi : ℕ) → lo ≤ k → k ≤ hi → hi ≤ c → hi - lo ≤ n → bisect key (key k) n lo hi ≡ k
  unfolding bisect
  ends_at zero lo hi a b d e = omega arith
  ends_at (suc n) lo hi a b d e =
      let mid = lo + (hi - lo) / 2 in
      halve_by lo hi mid (bisect key (key k) n (suc mid) hi) (bisect key (key k) n lo mid) (ltb lo hi) (ltb (key mid) (key k)) refl refl
      (λ h. omega arith)
      (λ h l. ends_at n (suc mid) hi (omega arith) b d (omega arith))
      (λ h l. ends_at n lo mid a l (omega arith) (omega arith))
      (λ h. omega arith)

  -- the place of its own key
  pub bisect_finds : found_by key c (key k) ≡ some k
  bisect_finds =
      let e : bisected key c (key k) ≡ k = ends_at c 0 c (omega arith) (omega arith) (omega arith) (omega arith) in
      rw (e, lt-ltb k c below, eq-eqb (key k) (key k) refl)

-- a key that no place has is not found, in whatever order the keys are
pub bisect_misses : (key : ℕ → ℕ) (c w : ℕ) → ((k : ℕ) → k < c → key k ≡ w → ⊥) → found_by key c w ≡ none
bisect_misses key c w none_has = go (ltb (bisected key c w) c) (eqb (key (bisected key c w)) w) refl refl
  where
    go : (s t : Bool) → ltb (bisected key c w) c ≡ s → eqb (key (bisected key c w)) w ≡ t → found_by key c w ≡ none
    go true true a b = absurd (none_has (bisected key c w) (ltb-true (bisected key c w) c a) (eqb-true (key (bisected key c w)) w b))
    go true false a b = rw (a, b)
    go false t a b = rw a
