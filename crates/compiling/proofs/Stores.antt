-- The stores of a step of the search, number by number: what is stored, and what stays.
-- Assumes nothing.
use mathlib.Core.Path.{◌≡◌, refl, sym, ap, ◌∙◌}
use mathlib.Core.List.{List}
use mathlib.Core.Logic.{◌⊎◌, inl, inr}
use Prim.Native.Nat.{ℕ, zero, suc, ◌+◌, ◌-◌, ◌*◌, ◌<◌, ◌≤◌}
use native.Mathlib.Nat.{eq-or-lt_of_le}
use native.Mathlib.Omega.{arith}
use lib.ListN.{length, set, length-set}
use borrow.Author.Tests.{lt-ltb, le-ltb}
use Rattle.words.proofs.Tests.{same_or_not}
use Rattle.compiling.specs.Rows.{at, Ascending, SameRows}
use Rattle.compiling.specs.SettleSteps.{status, opening, finishing, next_on_path, Opened, GivenUp}
use Rattle.compiling.proofs.RowLaws.{at_stored, at_other, at_row}

-- a step that changes none of the numbers 0 to 4, 14 and 15
pub rows_kept : {n : ℕ} (w w' : List ℕ) → length w' ≡ length w → ((k f : ℕ) → f < 16 → (f < 5) ⊎ (11 < f) → at w' k f ≡ at w k f) → SameRows n w w'
rows_kept w w' l s = record {
  same_length = l;
  same = λ k f h i. s k f (omega arith) (inl i);
  same_marks = λ k h. s k 14 (omega arith) (inr (omega arith));
  same_turns = λ k h. s k 15 (omega arith) (inr (omega arith));
}

-- ---- a row opens

pub record Opens (w w' : List ℕ) (j h : ℕ) : Type 0 where
  pub same_length : length w' ≡ length w
  pub status_is : status w' j ≡ 1
  pub entry_is : at w' h 8 ≡ j
  pub same : (k f : ℕ) → f < 16 → (f ≡ 5 → ⊥) → (f ≡ 8 → ⊥) → at w' k f ≡ at w k f
  pub statuses : (k : ℕ) → (k ≡ j → ⊥) → status w' k ≡ status w k
  pub entries : (i : ℕ) → (i ≡ h → ⊥) → at w' i 8 ≡ at w i 8

pub opens : (w : List ℕ) (j h : ℕ) → 16 * j + 5 < length w → 16 * h + 8 < length w → Opens w (opening w j h) j h
opens w j h a b =
    let v = set w (16 * j + 5) 1 in
    record {
      same_length = simp length-set;
      status_is = at_other v h 8 j j 5 (omega arith) (omega arith) (omega arith) ∙ at_stored w j 5 1 a;
      entry_is = at_stored v h 8 j (simp length-set b);
      same = λ k f l p q. at_other v h 8 j k f (omega arith) l q ∙ at_other w j 5 1 k f (omega arith) l p;
      statuses = λ k ne. at_other v h 8 j k 5 (omega arith) (omega arith) (omega arith) ∙ at_row w j 5 1 k (omega arith) ne;
      entries = λ i ne. at_row v h 8 j i (omega arith) ne ∙ at_other w j 5 1 i 8 (omega arith) (omega arith) (omega arith);
    }

-- ---- a row finishes

pub record Finishes (w w' : List ℕ) (k m c f : ℕ) : Type 0 where
  pub same_length : length w' ≡ length w
  pub status_is : status w' k ≡ 2
  pub code_is : at w' k 6 ≡ c
  pub flag_is : at w' k 7 ≡ f
  pub place_is : at w' k 11 ≡ m
  pub order_is : at w' m 10 ≡ k
  pub same : (j g : ℕ) → g < 16 → (g ≡ 5 → ⊥) → (g ≡ 6 → ⊥) → (g ≡ 7 → ⊥) → (g ≡ 10 → ⊥) → (g ≡ 11 → ⊥) → at w' j g ≡ at w j g
  pub others : (j g : ℕ) → g < 16 → (g ≡ 10 → ⊥) → (j ≡ k → ⊥) → at w' j g ≡ at w j g
  pub orders : (i : ℕ) → (i ≡ m → ⊥) → at w' i 10 ≡ at w i 10

-- another row's number
another : (w : List ℕ) (k f v j g : ℕ) → f < 16 → g < 16 → (j ≡ k → ⊥) → at (set w (16 * k + f) v) j g ≡ at w j g
another w k f v j g h l ne = go (same_or_not g f)
  where
    go : (g ≡ f) ⊎ (g ≡ f → ⊥) → at (set w (16 * k + f) v) j g ≡ at w j g
    go (inl e) = rw e (at_row w k f v j h ne)
    go (inr d) = at_other w k f v j g h l d

pub finishes : (w : List ℕ) (k m c f : ℕ) → 16 * k + 11 < length w → 16 * m + 10 < length w → Finishes w (finishing w k m c f) k m c f
finishes w k m c f a b =
    let v1 = set w (16 * k + 5) 2 in
    let v2 = set v1 (16 * k + 6) c in
    let v3 = set v2 (16 * k + 7) f in
    let v4 = set v3 (16 * k + 11) m in
    let past5 : (j g : ℕ) → g < 16 → (g ≡ 10 → ⊥) → at (set v4 (16 * m + 10) k) j g ≡ at v4 j g = λ j g l p. at_other v4 m 10 k j g (omega arith) l p in
    let past4 : (j g : ℕ) → g < 16 → (g ≡ 11 → ⊥) → at v4 j g ≡ at v3 j g = λ j g l p. at_other v3 k 11 m j g (omega arith) l p in
    let past3 : (j g : ℕ) → g < 16 → (g ≡ 7 → ⊥) → at v3 j g ≡ at v2 j g = λ j g l p. at_other v2 k 7 f j g (omega arith) l p in
    let past2 : (j g : ℕ) → g < 16 → (g ≡ 6 → ⊥) → at v2 j g ≡ at v1 j g = λ j g l p. at_other v1 k 6 c j g (omega arith) l p in
    let past1 : (j g : ℕ) → g < 16 → (g ≡ 5 → ⊥) → at v1 j g ≡ at w j g = λ j g l p. at_other w k 5 2 j g (omega arith) l p in
    record {
      same_length = simp length-set;
      status_is =
          past5 k 5 (omega arith) (omega arith) ∙ past4 k 5 (omega arith) (omega arith) ∙ past3 k 5 (omega arith) (omega arith)
          ∙ past2 k 5 (omega arith) (omega arith) ∙ at_stored w k 5 2 (omega arith);
      code_is =
          past5 k 6 (omega arith) (omega arith) ∙ past4 k 6 (omega arith) (omega arith) ∙ past3 k 6 (omega arith) (omega arith)
          ∙ at_stored v1 k 6 c (simp length-set (omega arith));
      flag_is = past5 k 7 (omega arith) (omega arith) ∙ past4 k 7 (omega arith) (omega arith) ∙ at_stored v2 k 7 f (simp length-set (omega arith));
      place_is = past5 k 11 (omega arith) (omega arith) ∙ at_stored v3 k 11 m (simp length-set a);
      order_is = at_stored v4 m 10 k (simp length-set b);
      same = λ j g l p q r s t. past5 j g l s ∙ past4 j g l t ∙ past3 j g l r ∙ past2 j g l q ∙ past1 j g l p;
      others = λ j g l p ne.
          past5 j g l p ∙ another v3 k 11 m j g (omega arith) l ne ∙ another v2 k 7 f j g (omega arith) l ne ∙ another v1 k 6 c j g (omega arith) l ne
          ∙ another w k 5 2 j g (omega arith) l ne;
      orders = λ i ne.
          at_row v4 m 10 k i (omega arith) ne ∙ past4 i 10 (omega arith) (omega arith) ∙ past3 i 10 (omega arith) (omega arith)
          ∙ past2 i 10 (omega arith) (omega arith) ∙ past1 i 10 (omega arith) (omega arith);
    }

-- ---- the rows of the path never finish

module _ (w : List ℕ) (h j : ℕ) where
  pub given_none : GivenUp w w h j h
  given_none = record { same_length = refl; same = λ k f l p q. refl; given = λ x p q. absurd (omega arith); kept = λ k ne. (refl, refl) }

  -- the row after a place within the path
  pub next_within : (x : ℕ) → suc x < h → next_on_path w h j x ≡ at w (suc x) 8
  next_within x l = rw (lt-ltb (suc x) h l)

  pub next_last : (x : ℕ) → suc x ≡ h → next_on_path w h j x ≡ j
  next_last x e = rw (le-ltb (suc x) h (omega arith))

  -- one more row, at place i
  module _ (w' : List ℕ) (i : ℕ) (l : i < h) (once : (x y : ℕ) → x < h → y < h → at w x 8 ≡ at w y 8 → x ≡ y) (g : GivenUp w w' h j (suc i))
      (room : 16 * at w i 8 + 9 < length w) where
    abbrev row : ℕ
    row = at w i 8

    abbrev after : ℕ
    after = next_on_path w h j i

    abbrev mid : List ℕ
    mid = set w' (16 * row + 5) 3

    abbrev w'' : List ℕ
    w'' = set mid (16 * row + 9) after

    long : 16 * row + 9 < length w'
    long = rw g.same_length room

    status-at : status w'' row ≡ 3
    status-at = at_other mid row 9 after row 5 (omega arith) (omega arith) (omega arith) ∙ at_stored w' row 5 3 (omega (arith, long))

    waits-at : at w'' row 9 ≡ after
    waits-at = at_stored mid row 9 after (simp length-set long)

    status-past : (x : ℕ) → (x ≡ row → ⊥) → status w'' x ≡ status w' x
    status-past x ne = another mid row 9 after x 5 (omega arith) (omega arith) ne ∙ another w' row 5 3 x 5 (omega arith) (omega arith) ne

    waits-past : (x : ℕ) → (x ≡ row → ⊥) → at w'' x 9 ≡ at w' x 9
    waits-past x ne = another mid row 9 after x 9 (omega arith) (omega arith) ne ∙ another w' row 5 3 x 9 (omega arith) (omega arith) ne

    given_by : (x : ℕ) → x < h → (i ≡ x) ⊎ (i < x) → (status w'' (at w x 8) ≡ 3) × (at w'' (at w x 8) 9 ≡ next_on_path w h j x)
    given_by x q (inl e) = rw (← e) (status-at, waits-at)
    given_by x q (inr p) =
        let d : at w x 8 ≡ row → ⊥ = λ e. omega (arith, once x i q l e) in
        let s = g.given x p q in
        (status-past (at w x 8) d ∙ s.0, waits-past (at w x 8) d ∙ s.1)

    pub given_more : GivenUp w w'' h j i
    given_more = record {
      same_length = simp length-set g.same_length;
      same = λ x f a p q. at_other mid row 9 after x f (omega arith) a q ∙ at_other w' row 5 3 x f (omega arith) a p ∙ g.same x f a p q;
      given = λ x p q. given_by x q (eq-or-lt_of_le p);
      kept = λ x ne.
          let d : x ≡ row → ⊥ = λ e. ne i (omega arith) l (sym e) in
          let s = g.kept x (λ y p q e. ne y (omega arith) q e) in
          (status-past x d ∙ s.0, waits-past x d ∙ s.1);
    }

-- the climb from the last row of the path to its first: the rows from place i on are given up, and `next` is what the row before them waits for
pub record Climbs (w w' : List ℕ) (h j next i : ℕ) : Type 0 where
  pub within : i ≤ h
  pub given_up : GivenUp w w' h j i
  pub next_is : (x : ℕ) → suc x ≡ i → next ≡ next_on_path w h j x

module _ (w : List ℕ) (h j : ℕ) where
  module _ (n : ℕ) (a : Ascending n w) (o : Opened n w h) (w' : List ℕ) (next : ℕ) where
    -- the row of a place, as the climb reads it
    pub climbs_row : (i : ℕ) → Climbs w w' h j next i → (x : ℕ) → at w' x 8 ≡ at w x 8
    climbs_row i c x = c.given_up.same x 8 (omega arith) (omega arith) (omega arith)

    step_by : (x k : ℕ) → Climbs w w' h j next (suc x) → k ≡ at w' x 8 → Climbs w (set (set w' (16 * k + 5) 3) (16 * k + 9) next) h j k x
    step_by x k c e =
        let i : k ≡ at w x 8 = e ∙ climbs_row (suc x) c x in
        let l : x < h = c.within in
        let b = o.row x l in
        record {
          within = omega arith;
          given_up = rw (i, c.next_is x refl) (given_more w h j w' x l o.once c.given_up (omega (arith, a.room)));
          next_is = λ y p. i ∙ ap (λ z. at w z 8) (sym p) ∙ sym (next_within w h j y (omega arith));
        }

    pub climbs_more : (i k : ℕ) → 0 < i → Climbs w w' h j next i → k ≡ at w' (i - 1) 8 → Climbs w (set (set w' (16 * k + 5) 3) (16 * k + 9) next) h j k (i - 1)
    climbs_more zero k p c e = absurd (omega arith)
    climbs_more (suc x) k p c e =
        let s : suc x - 1 ≡ x = omega arith in
        rw s (step_by x k c (rw s at e))
