-- Rows that hold a list of pairs, number by number: the order of a left's rows (number 15), the rows one after the other, and the whole work buffer as an
-- equation. Assumes nothing.
use mathlib.Core.Path.{◌≡◌, refl, sym, ap, ap₂, ◌∙◌}
use mathlib.Core.Bool.{true, false}
use mathlib.Core.List.{List, [], ◌∷◌, ◌++◌}
use mathlib.Core.Logic.{◌⊎◌, inl, inr}
use Prim.Native.Nat.{ℕ, zero, suc, ◌+◌, ◌-◌, ◌*◌, ◌/◌, ◌%◌, ◌<◌, ◌≤◌}
use native.Mathlib.Nat.{eq-or-lt_of_le, le_of_suc-le-suc}
use native.Mathlib.Omega.{arith}
use lib.IntN.{ℤ}
use lib.ListN.{length, get_or, replicate, length-append, length-replicate, get_or-append}
use lib.Seq.{ext_get_or, get_or-append-add}
use borrow.Author.Tests.{lt-ltb, le-ltb}
use Rattle.words.proofs.Lists.{get_d_tabulate}
use Rattle.words.proofs.Tests.{less_or_not}
use Rattle.lang.specs.Answers.{padded}
use Rattle.reading.specs.Items.{Left, bnd, chr}
use Rattle.reading.specs.Depth.{Pair}
use Rattle.reading.specs.Loops.{Ruled, same_pair, ordered}
use Rattle.fonts.specs.Fonts.{number_of_left, pairs_by}
use Rattle.fonts.specs.Numbers.{nth}
use Rattle.compiling.specs.Rows.{at, pair_at, ruled_at, pairs, Ascending}
use Rattle.compiling.specs.LoopRows.{walk_place, walk_row, WalkOrder}
use Rattle.compiling.specs.RowNumbers.{boundary_more, boundary_pairs, pair_place, walk_of, turn_of, sixteen_numbers, in_rows, pair_row_numbers}
use Rattle.compiling.specs.PairRows.{Collects}
use Rattle.compiling.proofs.RowLaws.{number_left}
use Rattle.compiling.proofs.PairRowLaws.{zero_at}
use Rattle.compiling.proofs.Sorted.{places_sort}
use Rattle.compiling.proofs.LoopLaws.{pair_itself, same_row, not_so}
use Rattle.compiling.proofs.Tied.{pairs_are}

-- ---- rows one after the other

module _ (row : ℕ → List ℕ) (sixteen : (k : ℕ) → length (row k) ≡ 16) where
  rows_length : (n : ℕ) → length (in_rows row n) ≡ 16 * n
  unfolding in_rows
  rows_length zero = refl
  rows_length (suc n) = omega (arith, length-append (in_rows row n) (row n), rows_length n, sixteen n)

  row_by : (n k f : ℕ) → f < 16 → (k ≡ n) ⊎ (k < n) → (k < n → get_or (in_rows row n) (16 * k + f) 0 ≡ get_or (row k) f 0) →
      get_or (in_rows row n ++ row n) (16 * k + f) 0 ≡ get_or (row k) f 0
  row_by n k f i (inl e) g =
      let a : 16 * k + f ≡ length (in_rows row n) + f = omega (arith, rows_length n) in
      ap (λ (x : ℕ). get_or (in_rows row n ++ row n) x 0) a
      ∙ get_or-append-add (in_rows row n) (row n) f 0
      ∙ ap (λ (x : ℕ). get_or (row x) f 0) (sym e)
  row_by n k f i (inr l) g =
      get_or-append (in_rows row n) (row n) 0 (16 * k + f) (omega (arith, rows_length n)) ∙ g l

  row_at : (n k f : ℕ) → k < n → f < 16 → get_or (in_rows row n) (16 * k + f) 0 ≡ get_or (row k) f 0
  unfolding in_rows
  row_at zero k f h i = absurd (omega arith)
  row_at (suc n) k f h i = row_by n k f i (eq-or-lt_of_le (le_of_suc-le-suc h)) (λ l. row_at n k f l i)

  -- a list whose rows they are, with zeros after them
  module _ (n : ℕ) (w : List ℕ) (room : 16 * n ≤ length w) (here : (k f : ℕ) → k < n → f < 16 → at w k f ≡ get_or (row k) f 0)
      (after : (k f : ℕ) → n ≤ k → f < 16 → at w k f ≡ 0) where
    place : (i : ℕ) → i ≡ 16 * (i / 16) + i % 16
    place i = omega arith

    number_by : (i : ℕ) → (i < 16 * n) ⊎ (16 * n ≤ i) → get_or w i 0 ≡ get_or (padded 0 (length w) (in_rows row n)) i 0
    number_by i (inl h) =
        ap (λ (x : ℕ). get_or w x 0) (place i)
        ∙ here (i / 16) (i % 16) (omega arith) (omega arith)
        ∙ sym (row_at n (i / 16) (i % 16) (omega arith) (omega arith))
        ∙ ap (λ (x : ℕ). get_or (in_rows row n) x 0) (sym (place i))
        ∙ sym (get_or-append (in_rows row n) (replicate (length w - length (in_rows row n)) 0) 0 i (omega (arith, rows_length n)))
    number_by i (inr h) =
        let m = length w - length (in_rows row n) in
        let a : i ≡ length (in_rows row n) + (i - 16 * n) = omega (arith, rows_length n) in
        ap (λ (x : ℕ). get_or w x 0) (place i)
        ∙ after (i / 16) (i % 16) (omega arith) (omega arith)
        ∙ sym (ap (λ (x : ℕ). get_or (in_rows row n ++ replicate m 0) x 0) a ∙ get_or-append-add (in_rows row n) (replicate m 0) (i - 16 * n) 0
        ∙ zero_at m (i - 16 * n))

    rows-padded : w ≡ padded 0 (length w) (in_rows row n)
    rows-padded =
        ext_get_or 0 w (padded 0 (length w) (in_rows row n))
        (omega (
          arith,
          length-append (in_rows row n) (replicate (length w - length (in_rows row n)) 0),
          length-replicate {A = ℕ} (length w - length (in_rows row n)) 0,
          rows_length n,
        ))
        (λ i h. number_by i (less_or_not i (16 * n)))

-- ---- the order of a left's rows

-- the first place of a pair
place_first : (p : Pair) (ps : List Ruled) (j : ℕ) → j < length ps → same_pair p (nth ps j).pair ≡ true →
    ((i : ℕ) → i < j → same_pair p (nth ps i).pair ≡ false) → pair_place p ps ≡ j
unfolding pair_place
place_first p [] j l e g = absurd (omega arith)
place_first p (q ∷ qs) zero l e g = rw e
place_first p (q ∷ qs) (suc j) l e g =
    rw (g 0 (omega arith)) (ap suc (place_first p qs j (le_of_suc-le-suc l) e (λ i h. g (suc i) (omega arith))))

-- pairs of which the first e are the boundary's
boundary_none : (l : Left) (n : ℕ) → 0 < number_of_left l → boundary_more l n ≡ n
boundary_none bnd n h = absurd (omega arith)
boundary_none (chr c) n h = refl

boundary_one : (l : Left) (n : ℕ) → number_of_left l ≡ 0 → boundary_more l n ≡ suc n
boundary_one bnd n h = refl
boundary_one (chr c) n h = absurd (omega arith)

boundary_count : (ps : List Ruled) (e : ℕ) → e ≤ length ps → ((k : ℕ) → k < e → number_of_left (nth ps k).pair.left ≡ 0) →
    ((k : ℕ) → e ≤ k → k < length ps → 0 < number_of_left (nth ps k).pair.left) → boundary_pairs ps ≡ e
unfolding boundary_pairs
boundary_count [] e l b o = omega arith
boundary_count (p ∷ ps) zero l b o =
    boundary_none p.pair.left (boundary_pairs ps) (o 0 (omega arith) (omega arith))
    ∙ boundary_count ps zero (omega arith) (λ k h. absurd (omega arith)) (λ k h i. o (suc k) (omega arith) (omega arith))
boundary_count (p ∷ ps) (suc e) l b o =
    boundary_one p.pair.left (boundary_pairs ps) (b 0 (omega arith))
    ∙ ap suc (boundary_count ps e (le_of_suc-le-suc l) (λ k h. b (suc k) (omega arith)) (λ k h i. o (suc k) (omega arith) (omega arith)))

-- the walk of a row, and the row of that walk
module _ (n e k : ℕ) (few : e ≤ n) (h : k < n) where
  walk_by : (k < e) ⊎ (e ≤ k) → (walk_of n e k < n) × (walk_place n e (walk_of n e k) ≡ k)
  walk_by (inl l) =
      rw (lt-ltb k e l) (omega arith, rw (le-ltb (e + (n - e + k)) n (omega arith)) (omega arith))
  walk_by (inr l) =
      rw (le-ltb k e l) (omega arith, rw (lt-ltb (e + (k - e)) n (omega arith)) (omega arith))

  walk_back : (walk_of n e k < n) × (walk_place n e (walk_of n e k) ≡ k)
  walk_back = walk_by (less_or_not k e)

-- ---- rows that hold a list of pairs

module _ (ps : List Ruled) (n e : ℕ) (w : List ℕ) (a : Ascending n w) (all : n ≡ length ps) (pair : (k : ℕ) → k < n → ruled_at w k ≡ nth ps k)
    (t : WalkOrder n e w) where
  left_is : (k : ℕ) → k < n → number_of_left (nth ps k).pair.left ≡ at w k 0
  left_is k h = ap (λ (x : Ruled). number_of_left x.pair.left) (sym (pair k h)) ∙ number_left (at w k 0)

  pub boundary_is : boundary_pairs ps ≡ e
  boundary_is =
      boundary_count ps e (omega (arith, all, t.few))
      (λ k h. left_is k (omega (arith, t.few)) ∙ t.boundary k h)
      (λ k h l. let i : k < n = omega (arith, all) in omega (arith, left_is k i, t.others k h i))

  walk_is : (s : ℕ) → s < n → nth (ordered ps) s ≡ ruled_at w (walk_row n e w s)
  walk_is s h =
      ap (λ (x : List Ruled). nth (ordered x) s) (sym (pairs_are ps n w all pair))
      ∙ ap (λ (x : List Ruled). nth x s) (places_sort n (ruled_at w) (walk_row n e w) t.row t.sorted t.each)
      ∙ get_d_tabulate n (λ i. ruled_at w (walk_row n e w i)) s _ h

  -- the place of a row's pair is the row
  place_is : (j : ℕ) → j < n → pair_place (pair_at w j) ps ≡ j
  place_is j h =
      place_first (pair_at w j) ps j (omega (arith, all))
      (ap (λ (x : Ruled). same_pair (pair_at w j) x.pair) (sym (pair j h)) ∙ pair_itself (pair_at w j))
      (λ i l. ap (λ (x : Ruled). same_pair (pair_at w j) x.pair) (sym (pair i (omega arith)))
      ∙ not_so (same_pair (pair_at w j) (pair_at w i)) (λ q. let y = same_row n w a j i h (omega arith) q in omega arith))

  turn_is : (k : ℕ) → k < n → at w k 15 ≡ turn_of ps k
  unfolding turn_of
  turn_is k h =
      let b = walk_back n e k t.few h in
      let s = walk_of n e k in
      sym
      (ap₂ (λ (m d : ℕ). pair_place (nth (ordered ps) (walk_of m d k)).pair ps) (sym all) boundary_is
      ∙ ap (λ (x : Ruled). pair_place x.pair ps) (walk_is s b.0)
      ∙ place_is (walk_row n e w s) (t.row s b.0)
      ∙ ap (λ (x : ℕ). at w x 15) b.1)

  -- every number of a row
  module _ (k op value : ℕ) (h : k < n) (o : at w k 3 ≡ op) (v : at w k 4 ≡ value) (rest : (f : ℕ) → 4 < f → f < 15 → at w k f ≡ 0) where
    later-number : (f : ℕ) → f < 11 → (f < 10) ⊎ (10 ≤ f) → at w k (5 + f) ≡ get_or (replicate 10 0 ++ (turn_of ps k ∷ [])) f 0
    later-number f l (inl i) =
        rest (5 + f) (omega arith) (omega arith)
        ∙ sym (get_or-append (replicate 10 0) (turn_of ps k ∷ []) 0 f i ∙ zero_at 10 f)
    later-number f l (inr i) = let e : f ≡ 10 = omega arith in rw e (turn_is k h)

    number_is : (f : ℕ) → f < 16 → at w k f ≡ get_or (sixteen_numbers ps k op value) f 0
    number_is zero l = sym (left_is k h)
    number_is (suc zero) l = ap (λ (x : Ruled). x.pair.right) (pair k h)
    number_is (suc (suc zero)) l = ap (λ (x : Ruled). x.index) (pair k h)
    number_is (suc (suc (suc zero))) l = o
    number_is (suc (suc (suc (suc zero)))) l = v
    number_is (suc (suc (suc (suc (suc f))))) l =
        let e : suc (suc (suc (suc (suc f)))) ≡ 5 + f = omega arith in ap (at w k) e ∙ later-number f (omega arith) (less_or_not f 10)

  -- the whole list
  pub rows_are : (op value : ℕ → ℕ) → ((k : ℕ) → k < n → at w k 3 ≡ op k) → ((k : ℕ) → k < n → at w k 4 ≡ value k) →
      ((k f : ℕ) → k < n → 4 < f → f < 15 → at w k f ≡ 0) → ((k f : ℕ) → n ≤ k → f < 16 → at w k f ≡ 0) →
      w ≡ padded 0 (length w) (in_rows (λ k. sixteen_numbers ps k (op k) (value k)) (length ps))
  rows_are op value o v rest after =
      rows-padded (λ k. sixteen_numbers ps k (op k) (value k)) (λ k. refl) n w a.room
      (λ k f h l. number_is k (op k) (value k) h (o k h) (v k h) (λ g. rest k g h) f l)
      after
      ∙ ap (λ (m : ℕ). padded 0 (length w) (in_rows (λ k. sixteen_numbers ps k (op k) (value k)) m)) all

-- the rows that are the boundary's, where the rows are those of a list of pairs
pub boundary_rows : (ps : List Ruled) (n e : ℕ) (w : List ℕ) → Ascending n w → pairs n w ≡ ps → n ≡ length ps → WalkOrder n e w → e ≡ boundary_pairs ps
boundary_rows ps n e w a p all t =
    sym (boundary_is ps n e w a all (λ k h. sym (get_d_tabulate n (ruled_at w) k _ h) ∙ ap (λ (qs : List Ruled). nth qs k) p) t)

-- the pairs of a font as they are collected
pub collected_rows : (s table : List ℤ) (w w' : List ℕ) (n e : ℕ) → Collects s table w w' n e → w' ≡ padded 0 (length w) (pair_row_numbers (pairs_by s table))
collected_rows s table w w' n e c =
    rows_are (pairs_by s table) n e w' c.ascending c.all c.pair c.turns (λ k. 0) (λ k. 0)
    (λ k h. c.rest k 3 h (omega arith) (omega arith))
    (λ k h. c.rest k 4 h (omega arith) (omega arith))
    (λ k f h i. c.rest k f h (omega arith))
    c.after
    ∙ ap (λ (m : ℕ). padded 0 m (pair_row_numbers (pairs_by s table))) c.same_length
