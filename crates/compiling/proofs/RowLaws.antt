-- Laws of rows: a number that is read after a store, the row of a pair, the rules and pairs that rows say, and what a pass keeps that changes none of them.
-- Assumes nothing.
use mathlib.Core.Path.{◌≡◌, refl, sym, ap, ap₂, ◌∙◌, subst, transport, fun_ext}
use mathlib.Core.Bool.{Bool, true, false, cond, false≢true}
use mathlib.Core.List.{List, [], ◌∷◌, ◌++◌, Memᴰ}
use mathlib.Core.Logic.{◌⊎◌, inl, inr}
use mathlib.Core.Option.{Option, none, some, some-injective, none-ne-some, some-ne-none}
use Prim.Native.Nat.{ℕ, zero, suc, ◌+◌, ◌*◌, ◌<◌}
use native.Mathlib.Nat.{eq-or-lt_of_le, le_of_suc-le-suc}
use native.Mathlib.Omega.{arith}
use lib.Dec.{eqb, ltb}
use lib.ListN.{length, set}
use lib.Seq.{get_or-set_same, get_or-set_other}
use borrow.Author.Tests.{eqb-true, eq-eqb, ltb-true, ltb-false}
use Rattle.lang.specs.Operations.{is_standard}
use Rattle.lang.proofs.Arms.{one_of}
use Rattle.lang.proofs.Standard.{eight, standard_eight}
use Rattle.words.specs.Lists.{tabulate}
use Rattle.words.proofs.Lists.{tabulate_ext}
use Rattle.reading.specs.Items.{Left, bnd, chr, free}
use Rattle.reading.specs.Depth.{Res}
use Rattle.reading.specs.Loops.{finished, waits}
use Rattle.reading.proofs.Covers.{Covers}
use Rattle.compiling.specs.Rows.{row_key, at, pair_at, ruled_at, rule_of, rule_at, pairs, is_pair, or_row, row_of, rule_by, rules, rule_fits, Ascending, Encoded, SameRows}
use Rattle.fonts.specs.Fonts.{left_of, number_of_left}
use Rattle.compiling.specs.SettledRows.{finished_rows, outcome, consults, FinishedRow, NeverRow, RowSays, Settled}
use Rattle.compiling.specs.OpRows.{OnlyField}

-- ---- a number that is read after a store

pub at_stored : (w : List ℕ) (k f v : ℕ) → 16 * k + f < length w → at (set w (16 * k + f) v) k f ≡ v
at_stored w k f v h = get_or-set_same w (16 * k + f) v 0 h

pub at_kept : (w : List ℕ) (k f v j g : ℕ) → f < 16 → g < 16 → (j ≡ k → g ≡ f → ⊥) → at (set w (16 * k + f) v) j g ≡ at w j g
at_kept w k f v j g h i ne = get_or-set_other w (16 * k + f) (16 * j + g) v 0 (λ e. ne (omega arith) (omega arith))

-- another number of any row, and the same number of another row
pub at_other : (w : List ℕ) (k f v j g : ℕ) → f < 16 → g < 16 → (g ≡ f → ⊥) → at (set w (16 * k + f) v) j g ≡ at w j g
at_other w k f v j g h i ne = at_kept w k f v j g h i (λ _ e. ne e)

pub at_row : (w : List ℕ) (k f v j : ℕ) → f < 16 → (j ≡ k → ⊥) → at (set w (16 * k + f) v) j f ≡ at w j f
at_row w k f v j h ne = at_kept w k f v j f h h (λ e _. ne e)

-- ---- the row of a pair

both_true : (a b c d : ℕ) → cond (eqb a b) (eqb c d) false ≡ true → (a ≡ b) × (c ≡ d)
both_true a b c d e = go (eqb a b) refl e
  where
    go : (t : Bool) → eqb a b ≡ t → cond t (eqb c d) false ≡ true → (a ≡ b) × (c ≡ d)
    go true i j = (eqb-true a b i, eqb-true c d j)
    go false i j = absurd (false≢true j)

abbrev pub IsRow : List ℕ → ℕ → ℕ → ℕ → Type 0
IsRow w k t r = (at w k 0 ≡ t) × (at w k 1 ≡ r)

is_row : (w : List ℕ) (k t r : ℕ) → IsRow w k t r → is_pair w k t r ≡ true
is_row w k t r (e, i) = rw (e, i, eq-eqb t t refl, eq-eqb r r refl)

module _ (w : List ℕ) (t r : ℕ) where
  found_by_lem : (n : ℕ) (o : Option ℕ) (b : Bool) → is_pair w n t r ≡ b → ((k : ℕ) → o ≡ some k → (k < n) × IsRow w k t r) → (k : ℕ) → or_row o b n ≡ some k →
      (k < suc n) × IsRow w k t r
  found_by_lem n (some j) b i h k e = let s = h k e in (omega (arith, s.0), s.1)
  found_by_lem n none true i h k e =
      let s : n ≡ k = some-injective n k e in
      (omega arith, rw (← s) (both_true (at w n 0) t (at w n 1) r i))
  found_by_lem n none false i h k e = absurd (none-ne-some k e)

  -- the row that is found is one of the rows, and has the pair
  pub row_found : (n k : ℕ) → row_of w n t r ≡ some k → (k < n) × IsRow w k t r
  unfolding row_of
  row_found zero k e = absurd (none-ne-some k e)
  row_found (suc n) k e = found_by_lem n (row_of w n t r) (is_pair w n t r) refl (λ j. row_found n j) k e

  missing_by : (n : ℕ) (o : Option ℕ) (b : Bool) → is_pair w n t r ≡ b → (o ≡ none → (k : ℕ) → k < n → IsRow w k t r → ⊥) → or_row o b n ≡ none → (k : ℕ) →
      (k ≡ n) ⊎ (k < n) → IsRow w k t r → ⊥
  missing_by n (some j) b i h e k l s = some-ne-none j e
  missing_by n none true i h e k l s = some-ne-none n e
  missing_by n none false i h e k (inl l) s = false≢true (sym i ∙ is_row w n t r (rw l at s))
  missing_by n none false i h e k (inr l) s = h refl k l s

  -- where none is found, no row has the pair
  pub row_missing : (n : ℕ) → row_of w n t r ≡ none → (k : ℕ) → k < n → IsRow w k t r → ⊥
  unfolding row_of
  row_missing zero e k h s = omega arith
  row_missing (suc n) e k h s = missing_by n (row_of w n t r) (is_pair w n t r) refl (row_missing n) e k (eq-or-lt_of_le (le_of_suc-le-suc h)) s

  pub no_row : (n : ℕ) → ((k : ℕ) → k < n → IsRow w k t r → ⊥) → row_of w n t r ≡ none
  no_row n h = go (row_of w n t r) refl
    where
      go : (o : Option ℕ) → row_of w n t r ≡ o → row_of w n t r ≡ none
      go none e = e
      go (some k) e = let s = row_found n k e in absurd (h k s.0 s.1)

module _ (n : ℕ) (w : List ℕ) (a : Ascending n w) where
  ascend_by : (i j : ℕ) → suc j < n → (i < j → row_key w i < row_key w j) → (i ≡ j) ⊎ (i < j) → row_key w i < row_key w (suc j)
  ascend_by i j l h (inl e) = rw e (a.ascends j l)
  ascend_by i j l h (inr k) = omega (arith, a.ascends j l, h k)

  pub keys_ascend : (i j : ℕ) → i < j → j < n → row_key w i < row_key w j
  keys_ascend i zero h l = absurd (omega arith)
  keys_ascend i (suc j) h l = ascend_by i j l (λ k. keys_ascend i j k (omega arith)) (eq-or-lt_of_le (le_of_suc-le-suc h))

  -- a pair has one row
  pub one_row : (i j : ℕ) → i < n → j < n → at w i 0 ≡ at w j 0 → at w i 1 ≡ at w j 1 → i ≡ j
  one_row i j h l e s = go (ltb i j) (ltb j i) refl refl
    where
      go : (b c : Bool) → ltb i j ≡ b → ltb j i ≡ c → i ≡ j
      go true c p q = absurd (omega (arith, keys_ascend i j (ltb-true i j p) l))
      go false true p q = absurd (omega (arith, keys_ascend j i (ltb-true j i q) h))
      go false false p q = omega (arith, ltb-false i j p, ltb-false j i q)

  pub row_is : (k t r : ℕ) → k < n → IsRow w k t r → row_of w n t r ≡ some k
  row_is k t r h s = go (row_of w n t r) refl
    where
      go : (o : Option ℕ) → row_of w n t r ≡ o → row_of w n t r ≡ some k
      go none e = absurd (row_missing w t r n e k h s)
      go (some j) e =
          let f = row_found w t r n j e in
          e ∙ ap some (one_row j k f.0 h (f.1.0 ∙ sym s.0) (f.1.1 ∙ sym s.1))

pub number_left : (t : ℕ) → number_of_left (left_of t) ≡ t
number_left zero = refl
number_left (suc c) = refl

pub left_number_lem : (l : Left) → left_of (number_of_left l) ≡ l
left_number_lem bnd = refl
left_number_lem (chr c) = refl

-- each row is that of its pair, and its rule is that pair's
module _ (n : ℕ) (w : List ℕ) (a : Ascending n w) (k : ℕ) (h : k < n) where
  pub row_at : row_of w n (number_of_left (left_of (at w k 0))) (at w k 1) ≡ some k
  row_at = rw (number_left (at w k 0)) (row_is n w a k (at w k 0) (at w k 1) h (refl, refl))

  pub rule_at_lem : rules n w (left_of (at w k 0)) (at w k 1) ≡ rule_at w k
  rule_at_lem = ap (rule_by w) row_at

-- ---- the rule of a row: a kern, or one of the eight standard op bytes with a character

pub fits_parts : (op v : ℕ) → rule_fits op v ≡ true → (op ≡ 128) ⊎ ((op < 128) × (is_standard op ≡ true) × (v < 256))
fits_parts op v e = go (eqb op 128) (ltb op 128) (is_standard op) (ltb v 256) refl refl refl refl e
  where
    go : (a b c d : Bool) → eqb op 128 ≡ a → ltb op 128 ≡ b → is_standard op ≡ c → ltb v 256 ≡ d → cond a true (cond b (cond c d false) false) ≡ true →
        (op ≡ 128) ⊎ ((op < 128) × (is_standard op ≡ true) × (v < 256))
    go true b c d i j k l h = inl (eqb-true op 128 i)
    go false true true true i j k l h = inr (ltb-true op 128 j, k, ltb-true v 256 l)
    go false true true false i j k l h = absurd (false≢true h)
    go false true false d i j k l h = absurd (false≢true h)
    go false false c d i j k l h = absurd (false≢true h)

pub value_small : (op v : ℕ) → rule_fits op v ≡ true → op < 128 → v < 256
value_small op v e h = go (fits_parts op v e)
  where
    go : (op ≡ 128) ⊎ ((op < 128) × (is_standard op ≡ true) × (v < 256)) → v < 256
    go (inl i) = absurd (omega arith)
    go (inr (l, i, s)) = s

pub fits_eight : (op v : ℕ) → rule_fits op v ≡ true → (op ≡ 128) ⊎ (one_of op eight ≡ true)
fits_eight op v e = go (fits_parts op v e)
  where
    go : (op ≡ 128) ⊎ ((op < 128) × (is_standard op ≡ true) × (v < 256)) → (op ≡ 128) ⊎ (one_of op eight ≡ true)
    go (inl i) = inl i
    go (inr (l, i, s)) = inr (sym (standard_eight op l) ∙ i)

-- ---- every pair that has a rule has a row

mem_by {ℓ} : {A : Type ℓ} (n : ℕ) (f : ℕ → A) (k : ℕ) → (k < n → Memᴰ (f k) (tabulate n f)) → (k ≡ n) ⊎ (k < n) →
    Memᴰ (f k) (tabulate n f ++ (f n ∷ []))
mem_by n f k h (inl e) = mathlib.Core.List.Memᴰ.append_right (tabulate n f) (mathlib.Core.List.Memᴰ.head (ap f e))
mem_by n f k h (inr l) = mathlib.Core.List.Memᴰ.append_left (f n ∷ []) (h l)

pub mem_tabulate {ℓ} : {A : Type ℓ} (n : ℕ) (f : ℕ → A) (k : ℕ) → k < n → Memᴰ (f k) (tabulate n f)
unfolding tabulate
mem_tabulate zero f k h = absurd (omega arith)
mem_tabulate (suc n) f k h = mem_by n f k (mem_tabulate n f k) (eq-or-lt_of_le (le_of_suc-le-suc h))

pub covers_rows : (n : ℕ) (w : List ℕ) → Covers (rules n w) (pairs n w)
covers_rows n w = record { covers = λ l r ruled. by l r (row_of w n (number_of_left l) r) refl ruled }
  where
    by : (l : Left) (r : ℕ) (o : Option ℕ) → row_of w n (number_of_left l) r ≡ o → (rule_by w o ≡ free → ⊥) →
        (i : ℕ) × Memᴰ (record { pair = record { left = l; right = r }; index = i }) (pairs n w)
    by l r none e ruled = absurd (ruled refl)
    by l r (some k) e ruled =
        let f = row_found w (number_of_left l) r n k e in
        let s : l ≡ left_of (at w k 0) = sym (left_number_lem l) ∙ ap left_of (sym f.1.0) in
        let v : r ≡ at w k 1 = sym f.1.1 in
        (at w k 2, mathlib.Core.List.Memᴰ.cast (λ i. record { pair = record { left = s i; right = v i }; index = at w k 2 }) (mem_tabulate n (ruled_at w) k f.0))

-- ---- rows that say the same

-- the first five numbers of the first n rows of u are those of w: pair, index, rule
abbrev pub SameRules : ℕ → List ℕ → List ℕ → Type 0
SameRules n w u = (k f : ℕ) → k < n → f < 5 → at u k f ≡ at w k f

pub rule_same : {n : ℕ} (w u : List ℕ) → SameRules n w u → (k : ℕ) → k < n → rule_at u k ≡ rule_at w k
rule_same w u s k h = ap₂ rule_of (s k 3 h (omega arith)) (s k 4 h (omega arith))

pub pair_same : {n : ℕ} (w u : List ℕ) → SameRules n w u → (k : ℕ) → k < n → pair_at u k ≡ pair_at w k
pair_same w u s k h =
    let e = s k 0 h (omega arith) in
    let i = s k 1 h (omega arith) in
    λ j. record { left = left_of (e j); right = i j }

pub ruled_same : {n : ℕ} (w u : List ℕ) → SameRules n w u → (k : ℕ) → k < n → ruled_at u k ≡ ruled_at w k
ruled_same w u s k h =
    let e = pair_same w u s k h in
    let i = s k 2 h (omega arith) in
    λ j. record { pair = e j; index = i j }

pub row_same : (n : ℕ) (w u : List ℕ) → SameRules n w u → (t r : ℕ) → row_of u n t r ≡ row_of w n t r
unfolding row_of
row_same zero w u s t r = refl
row_same (suc n) w u s t r = rw (row_same n w u (λ k f h i. s k f (omega arith) i) t r, s n 0 (omega arith) (omega arith), s n 1 (omega arith) (omega arith))

module _ (n : ℕ) (w u : List ℕ) (s : SameRules n w u) where
  rule_by_lem : (t r : ℕ) (o : Option ℕ) → row_of w n t r ≡ o → rule_by u o ≡ rule_by w o
  rule_by_lem t r none e = refl
  rule_by_lem t r (some k) e = rule_same w u s k (row_found w t r n k e).0

  pub rules_same : rules n u ≡ rules n w
  rules_same =
      fun_ext (λ l. fun_ext (λ r. ap (rule_by u) (row_same n w u s (number_of_left l) r) ∙ rule_by_lem (number_of_left l) r (row_of w n (number_of_left l) r) refl))

  pub pairs_same : pairs n u ≡ pairs n w
  pairs_same = tabulate_ext n (ruled_at u) (ruled_at w) (ruled_same w u s)

  pub finished_same : finished_rows n u ≡ finished_rows n w
  finished_same = λ i. finished (rules_same i) (pairs_same i)

  pub outcome_same : (k : ℕ) → k < n → outcome n u k ≡ outcome n w k
  outcome_same k h =
      let e = pair_same w u s k h in
      λ i. finished_same i (e i).left (e i).right

  pub consults_same : (k j : ℕ) → k < n → j < n → Memᴰ (pair_at u j) (consults (rule_at u k) (finished_rows n u) (pair_at u k).left (pair_at u k).right) →
      Memᴰ (pair_at w j) (consults (rule_at w k) (finished_rows n w) (pair_at w k).left (pair_at w k).right)
  consults_same k j h l =
      let r = rule_same w u s k h in
      let g = finished_same in
      let p = pair_same w u s k h in
      let q = pair_same w u s j l in
      transport (λ i. Memᴰ (q i) (consults (r i) (g i) (p i).left (p i).right))

  pub ascending_same : length u ≡ length w → Ascending n w → Ascending n u
  ascending_same l a = record {
    room = rw l a.room;
    few = a.few;
    left = λ k h. rw (s k 0 h (omega arith)) (a.left k h);
    right = λ k h. rw (s k 1 h (omega arith)) (a.right k h);
    ascends =
        λ k h.
        omega (
          arith,
          s k 0 (omega arith) (omega arith),
          s k 1 (omega arith) (omega arith),
          s (suc k) 0 h (omega arith),
          s (suc k) 1 h (omega arith),
          a.ascends k h,
        );
  }

  pub encoded_same : length u ≡ length w → Encoded n w → Encoded n u
  encoded_same l e = record {
    ascending = ascending_same l e.ascending;
    ops = λ k h. rw (s k 3 h (omega arith), s k 4 h (omega arith)) (e.ops k h);
  }

-- ---- a pass keeps rows

pub same_rows_none : (n : ℕ) (w : List ℕ) → SameRows n w w
same_rows_none n w = record { same_length = refl; same = λ k f h i. refl; same_marks = λ k h. refl; same_turns = λ k h. refl }

pub same_rows_more : {n : ℕ} (w u v : List ℕ) → SameRows n w u → SameRows n u v → SameRows n w v
same_rows_more w u v s t = record {
  same_length = t.same_length ∙ s.same_length;
  same = λ k f h i. t.same k f h i ∙ s.same k f h i;
  same_marks = λ k h. t.same_marks k h ∙ s.same_marks k h;
  same_turns = λ k h. t.same_turns k h ∙ s.same_turns k h;
}

-- ---- settled rows

-- what settling wrote: numbers 5, 6, 7, 9, 10 and 11 of the first n rows
abbrev pub SameState : ℕ → List ℕ → List ℕ → Type 0
SameState n w u = (k f : ℕ) → k < n → 4 < f → f < 12 → (f ≡ 8 → ⊥) → at u k f ≡ at w k f

-- w and w' are settled; u says the rules of w, and u' the state of w'
module _ (n m : ℕ) (w w' u u' : List ℕ) (b : SameRules n w u) (c : SameState n w' u') (s : Settled n w w' m) where
  finished_says : (k : ℕ) (q : Res) → k < n → FinishedRow w' m k q → FinishedRow u' m k q
  finished_says k q h f =
      let e : at u' k 11 ≡ at w' k 11 = c k 11 h (omega arith) (omega arith) (omega arith) in
      record {
        status = c k 5 h (omega arith) (omega arith) (omega arith) ∙ f.status;
        last_code = c k 6 h (omega arith) (omega arith) (omega arith) ∙ f.last_code;
        last_flag_lem = c k 7 h (omega arith) (omega arith) (omega arith) ∙ f.last_flag_lem;
        place = rw e f.place;
        ordered = rw e (c (at w' k 11) 10 (omega (arith, f.place, s.few)) (omega arith) (omega arith) (omega arith) ∙ f.ordered);
      }

  never_says : (k : ℕ) → k < n → NeverRow n w w' k → NeverRow n u u' k
  never_says k h f =
      let e : at u' k 9 ≡ at w' k 9 = c k 9 h (omega arith) (omega arith) (omega arith) in
      let r = rules_same n w u b in
      let g = finished_same n w u b in
      let p = pair_same w u b k h in
      let i : waits (rules n u) (finished_rows n u) (pair_at u k) ≡ waits (rules n w) (finished_rows n w) (pair_at w k) = λ j. waits (r j) (g j) (p j) in
      record {
        status = c k 5 h (omega arith) (omega arith) (omega arith) ∙ f.status;
        row = rw e f.row;
        waits_for = ap (pair_at u) e ∙ pair_same w u b (at w' k 9) f.row ∙ f.waits_for ∙ sym i;
      }

  row_says : (k : ℕ) → k < n → (o : Option Res) → RowSays n w w' m k o → RowSays n u u' m k o
  row_says k h none r = never_says k h r
  row_says k h (some q) r = finished_says k q h r

  pub settled_as : SameRows n u u' → Settled n u u' m
  settled_as rows = record {
    rows = rows;
    says = λ k h. subst (RowSays n u u' m k) (sym (outcome_same n w u b k h)) (row_says k h (outcome n w k) (s.says k h));
    order = ordered;
    earlier = λ k j h l i p t.
        rw (c k 11 h (omega arith) (omega arith) (omega arith), c j 11 l (omega arith) (omega arith) (omega arith))
        (s.earlier k j h l (sym (c k 5 h (omega arith) (omega arith) (omega arith)) ∙ i) (sym (c j 5 l (omega arith) (omega arith) (omega arith)) ∙ p)
        (consults_same n w u b k j h l t));
    few = s.few;
  }
    where
      ordered : (i : ℕ) → i < m → (at u' i 10 < n) × (at u' (at u' i 10) 5 ≡ 2) × (at u' (at u' i 10) 11 ≡ i)
      ordered i h =
          let o = s.order i h in
          let e : at u' i 10 ≡ at w' i 10 = c i 10 (omega (arith, s.few)) (omega arith) (omega arith) (omega arith) in
          rw e (
            o.0,
            c (at w' i 10) 5 o.0 (omega arith) (omega arith) (omega arith) ∙ o.1,
            c (at w' i 10) 11 o.0 (omega arith) (omega arith) (omega arith) ∙ o.2,
          )

-- the rows as a pass left them are settled by themselves
pub settled_self : (n m : ℕ) (w w' : List ℕ) → Settled n w w' m → Settled n w' w' m
settled_self n m w w' s = settled_as n m w w' w' w' s.rows.same (λ k f h i j l. refl) s (same_rows_none n w')

-- and for the rows as they were before a pass that kept them
pub settled_since : (n m : ℕ) (w w' : List ℕ) → SameRows n w w' → Settled n w' w' m → Settled n w w' m
settled_since n m w w' r s = settled_as n m w' w' w w' (λ k f h i. sym (r.same k f h i)) (λ k f h i j l. refl) s r

-- A pass that changes none of the numbers 0 to 7 and 9 to 11 keeps rows settled.
abbrev pub Keeps : ℕ → List ℕ → List ℕ → Type 0
Keeps n w u = (k f : ℕ) → k < n → f < 12 → (f ≡ 8 → ⊥) → at u k f ≡ at w k f

pub keeps_rules : {n : ℕ} (w u : List ℕ) → Keeps n w u → SameRules n w u
keeps_rules w u s k f h i = s k f h (omega arith) (omega arith)

pub settled_kept : (n m : ℕ) (w u : List ℕ) → Keeps n w u → Settled n w w m → Settled n u u m
settled_kept n m w u s t = settled_as n m w w u u (keeps_rules w u s) (λ k f h i j l. s k f h j l) t (same_rows_none n u)

-- as a pass does that changes number g alone, where g is 8 or from 12 on
pub only_keeps : {g n : ℕ} (w u : List ℕ) → ((f : ℕ) → f < 12 → (f ≡ 8 → ⊥) → f ≡ g → ⊥) → OnlyField g n w u → Keeps n w u
only_keeps w u d o k f h i j = o.same k f h (omega arith) (d f i j)
