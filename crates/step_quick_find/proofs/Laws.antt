-- The tests of the code, as the definitions have them, and its search. Assumes nothing.
use Rattle.std.proofs.Common.{◌≡◌, ℕ, ◌+◌, ◌-◌, ◌*◌, ◌/◌, ◌%◌, ◌^◌, ◌<◌, ◌≤◌, Bool, true, false, ltb, List, get_or, ℤ, pos, sym, refl, ap, ◌∙◌, subst, arith, ltb-false, ltb-true, le-ltb, lt-ltb, eq-eqb, ne_eqb}
use Rattle.words.specs.Words.{Word, word_of}
use Rattle.captions.specs.Tables.{pair_count, number, left_place, key_by, key_at, place_for}
use Rattle.lang.proofs.Bisection.{Bisecting, bisecting_up, bisecting_down, bisect_ended}
use Rattle.step_quick.specs.Quick.{found_place}

-- ---- the place of a pair

-- the left of a pair by its word
pub left_word : (pairs : List ℤ) (k : ℕ) {w r : ℕ} → Word (get_or pairs (6 * k) (pos 0)) w → r ≡ (w + 1) % 2 ^ 32 → r ≡ left_place (number pairs k 0)
left_word pairs k {w} q e =
    let i : 6 * k ≡ 6 * k + 0 = omega arith in
    e ∙ ap (λ (n : ℕ). (n + 1) % 4294967296) (q.is ∙ ap (λ (j : ℕ). word_of (get_or pairs j (pos 0))) i)

-- a pair comes before another by its left, and by its right where the lefts are the same
module _ (a b l r : ℕ) where
  pub before_left : b < 2 ^ 32 → a < l → true ≡ ltb (key_by a b) (key_by l r)
  before_left h k = sym (lt-ltb (key_by a b) (key_by l r) (omega arith))

  pub after_left : r < 2 ^ 32 → l < a → false ≡ ltb (key_by a b) (key_by l r)
  after_left h k = sym (le-ltb (key_by a b) (key_by l r) (omega arith))

  pub same_left : l ≤ a → a ≤ l → ltb b r ≡ ltb (key_by a b) (key_by l r)
  same_left h k = go (ltb b r) refl
    where
      go : (t : Bool) → ltb b r ≡ t → t ≡ ltb (key_by a b) (key_by l r)
      go true e = sym (lt-ltb (key_by a b) (key_by l r) (omega (arith, ltb-true b r e)))
      go false e = sym (le-ltb (key_by a b) (key_by l r) (omega (arith, ltb-false b r e)))

-- the middle, without a difference
pub middle : (lo hi : ℕ) → lo ≤ hi → (lo + hi) / 2 ≡ lo + (hi - lo) / 2
middle lo hi h = omega arith

-- what was found, by the place where the search ends
module _ (pairs : List ℤ) (left right : ℕ) where
  pub none_past : (n k : ℕ) → n ≡ pair_count pairs → k ≡ place_for pairs (key_by left right) → n ≤ k → n ≡ found_place pairs left right
  none_past n k e f h = rw (← f, le-ltb k (pair_count pairs) (omega (arith, e, h)), e)

  module _ (k : ℕ) (f : k ≡ place_for pairs (key_by left right)) (h : k < pair_count pairs) where
    pub none_other : (n : ℕ) → n ≡ pair_count pairs → (key_at pairs k ≡ key_by left right → ⊥) → n ≡ found_place pairs left right
    none_other n e g = rw (← f, lt-ltb k (pair_count pairs) h, ne_eqb (key_at pairs k) (key_by left right) g, e)

    pub found_there : key_at pairs k ≡ key_by left right → k ≡ found_place pairs left right
    found_there g = rw (← f, lt-ltb k (pair_count pairs) h, eq-eqb (key_at pairs k) (key_by left right) g)

-- ---- the search, halving by halving

module _ (pairs : List ℤ) (w lo hi : ℕ) (s : Bisecting (key_at pairs) (pair_count pairs) w lo hi) where
  pub search_up : lo < hi → (b : Bool) → b ≡ ltb (key_at pairs ((lo + hi) / 2)) w → b ≡ true →
      Bisecting (key_at pairs) (pair_count pairs) w ((lo + hi) / 2 + 1) hi
  search_up h b e t =
      let m = middle lo hi s.order in
      subst (λ (i : ℕ). Bisecting (key_at pairs) (pair_count pairs) w (i + 1) hi) (sym m)
      (bisecting_up (key_at pairs) (pair_count pairs) w lo hi s h
      (subst (λ (i : ℕ). key_at pairs i < w) m (ltb-true (key_at pairs ((lo + hi) / 2)) w (sym e ∙ t))))

  pub search_down : lo < hi → (b : Bool) → b ≡ ltb (key_at pairs ((lo + hi) / 2)) w → b ≡ false →
      Bisecting (key_at pairs) (pair_count pairs) w lo ((lo + hi) / 2)
  search_down h b e t =
      let m = middle lo hi s.order in
      subst (λ (i : ℕ). Bisecting (key_at pairs) (pair_count pairs) w lo i) (sym m)
      (bisecting_down (key_at pairs) (pair_count pairs) w lo hi s h
      (subst (λ (i : ℕ). w ≤ key_at pairs i) m (ltb-false (key_at pairs ((lo + hi) / 2)) w (sym e ∙ t))))

  pub search_ends : hi ≤ lo → lo ≡ place_for pairs w
  search_ends h = sym (bisect_ended (key_at pairs) (pair_count pairs) w lo hi s h)
