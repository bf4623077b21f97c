-- The pairs that have finished so far, by the statuses of rows: what is known is right, it grows with the statuses, and a row's rule says by it what the
-- row's last is, or which row it waits for.
-- Assumes nothing.
use mathlib.Core.Path.{◌≡◌, refl, sym, ap, ◌∙◌}
use mathlib.Core.Bool.{Bool, true, false, cond, ◌||◌, false≢true}
use mathlib.Core.List.Memᴰ
use mathlib.Core.List.{List, [], ◌∷◌, ◌++◌, Memᴰ}
use mathlib.Core.Logic.{◌⊎◌, inl, inr}
use mathlib.Core.Option.{Option, none, some, map-eq-some_iff, some-injective, none-ne-some}
use Prim.Native.Nat.{ℕ, ◌+◌, ◌<◌}
use native.Mathlib.Numerals.{one-add}
use native.Mathlib.Omega.{arith}
use lib.Dec.{T, eqb}
use borrow.Author.Tests.{eqb-true, ne_eqb}
use Rattle.lang.proofs.Arms.{one_of}
use Rattle.lang.proofs.Standard.{eight}
use Rattle.lang.specs.declared.operation.PostLigOperation.TheVariants.{RetainBothMoveNowhere, RetainBothMoveToInserted, RetainBothMoveToRight}
use Rattle.lang.specs.declared.operation.PostLigOperation.TheVariants.{RetainRightMoveToInserted, RetainRightMoveToRight, RetainLeftMoveNowhere}
use Rattle.lang.specs.declared.operation.PostLigOperation.TheVariants.{RetainLeftMoveToInserted, RetainNeitherMoveToInserted}
use Rattle.reading.specs.Items.{Left, chr, Rule, free, kerned, lig, Item, item, code, flag, plain, inserted, head, Out, glyph, kern, fin}
use Rattle.reading.specs.Depth.{Res, Finished, Pair, before, raise_left, raised, comp_by, comp, waits_both, waits_by}
use Rattle.reading.specs.Form.{last_form, ops_form}
use Rattle.reading.proofs.Theorems.{form}
use Rattle.reading.proofs.Flags.{code_raised, flag_raised}
use Rattle.reading.proofs.Right.{both_finished, deeper_by}
use Rattle.reading.proofs.Enough.{once_more}
use Rattle.words.specs.Words.{number_of}
use Rattle.words.proofs.Tests.{same_or_not}
use Rattle.compiling.specs.declared.Last.{Last}
use Rattle.compiling.specs.declared.Last.TheVariants.{Known, Waits}
use Rattle.compiling.specs.Rows.{at, pair_at, rule_of, rule_at, row_of, pairs, rules, rule_fits, Ascending}
use Rattle.fonts.specs.Fonts.{left_of, number_of_left}
use Rattle.compiling.specs.SettledRows.{bit, finished_rows, outcome, second, consults}
use Rattle.compiling.specs.SettleSteps.{status, known_by, known, LastIs, LastsStored, Waiting, PairSays, RuleSays, SecondSays, flagged, code_of}
use Rattle.compiling.proofs.RowLaws.{fits_eight, number_left, SameRules, row_same, row_found, row_at, rule_at_lem, covers_rows, finished_same}

-- ---- one rule over pairs that finish

-- f has finished no more than g, and both say the same
abbrev pub Grows : Finished → Finished → Type 0
Grows f g = (l : Left) (r : ℕ) (q : Res) → f l r ≡ some q → g l r ≡ some q

abbrev pub HasFinished : Finished → Pair → Type 0
HasFinished f p = (s : Res) × (f p.left p.right ≡ some s)

module _ (f g : Finished) (grows : Grows f g) where
  both_later : (l : Left) (r c : ℕ) (p : Pair) (o : Option Res) → f l c ≡ o → waits_both l c r o ≡ p → g p.left p.right ≡ none →
      waits_both l c r (g l c) ≡ p
  both_later l r c p none e i h = rw (rw (← i) at h) i
  both_later l r c p (some s) e i h = rw (grows l c s e) i

  -- what is waited for stays, as long as that has not finished
  pub waits_later : (R : Rule) (l : Left) (r : ℕ) (p : Pair) → waits_by R f l r ≡ some p → g p.left p.right ≡ none → waits_by R g l r ≡ some p
  waits_later free l r p e h = e
  waits_later (kerned k) l r p e h = e
  waits_later (lig RetainNeitherMoveToInserted c) l r p e h = e
  waits_later (lig RetainLeftMoveToInserted c) l r p e h = e
  waits_later (lig RetainRightMoveToRight c) l r p e h = e
  waits_later (lig RetainBothMoveToRight c) l r p e h = e
  waits_later (lig RetainRightMoveToInserted c) l r p e h = e
  waits_later (lig RetainBothMoveToInserted c) l r p e h = e
  waits_later (lig RetainLeftMoveNowhere c) l r p e h = e
  waits_later (lig RetainBothMoveNowhere c) l r p e h = ap some (both_later l r c p (f l c) refl (some-injective _ _ e) h)

  finishes_one : (l : Left) (r : ℕ) (s : Res) → f l r ≡ some s → (p : Pair) → Memᴰ p (record { left = l; right = r } ∷ []) → HasFinished f p
  finishes_one l r s e p m = let i = Memᴰ.eq_of_singleton m in rw i (s, e)

  both_consults : (l : Left) (r c : ℕ) (p : Res) (s : Res) → f l c ≡ some p → f (chr (code p.last)) r ≡ some s → (o : Option Res) → g l c ≡ o → (q : Pair) →
      (q ≡ record { left = l; right = c }) ⊎ Memᴰ q (second r o) → HasFinished f q
  both_consults l r c p s e i o h q (inl j) = rw j (p, e)
  both_consults l r c p s e i none h q (inr m) = absurd (Memᴰ.not-nil m)
  both_consults l r c p s e i (some p') h q (inr m) =
      let j : p ≡ p' = some-injective p p' (sym (grows l c p e) ∙ h) in
      finishes_one (chr (code p'.last)) r s (rw j at i) q m

  -- what goes into a pair that finishes has finished
  pub consults_finished : (R : Rule) (l : Left) (r : ℕ) (q : Res) → comp_by R f l r ≡ some q → (p : Pair) → Memᴰ p (consults R g l r) → HasFinished f p
  consults_finished free l r q e p m = absurd (Memᴰ.not-nil m)
  consults_finished (kerned k) l r q e p m = absurd (Memᴰ.not-nil m)
  consults_finished (lig RetainNeitherMoveToInserted c) l r q e p m = absurd (Memᴰ.not-nil m)
  consults_finished (lig RetainLeftMoveToInserted c) l r q e p m = absurd (Memᴰ.not-nil m)
  consults_finished (lig RetainRightMoveToRight c) l r q e p m = absurd (Memᴰ.not-nil m)
  consults_finished (lig RetainBothMoveToRight c) l r q e p m = absurd (Memᴰ.not-nil m)
  consults_finished (lig RetainRightMoveToInserted c) l r q e p m =
      let s = (map-eq-some_iff (raised true false) (f (chr c) r)).0 e in
      finishes_one (chr c) r s.0 s.1 p m
  consults_finished (lig RetainBothMoveToInserted c) l r q e p m =
      let s = (map-eq-some_iff (λ (t : Res). before (fin (head l)) (raised true false t)) (f (chr c) r)).0 e in
      finishes_one (chr c) r s.0 s.1 p m
  consults_finished (lig RetainLeftMoveNowhere c) l r q e p m =
      let s = (map-eq-some_iff (raised false true) (f l c)).0 e in
      finishes_one l c s.0 s.1 p m
  consults_finished (lig RetainBothMoveNowhere c) l r q e p m =
      let s = both_finished f r (raised false true) (f l c) e in
      both_consults l r c s.0 s.2 s.1 (rw (code_raised false true s.0) at s.3) (g l c) refl p (Memᴰ.cases_cons m)

-- ---- the left's flag

-- Where a left character has no character op, its last is a ligature already.
flag_in_ops : (a : ℕ) (os : List Out) (x : Item) → T (ops_form (chr a) os x) → (raise_left true os x).last ≡ x
unfolding ops_form raise_left
flag_in_ops a [] (item true c) t = refl
flag_in_ops a [] (item false c) t = absurd t
flag_in_ops a (glyph y ∷ os) x t = refl
flag_in_ops a (kern k ∷ os) x t = flag_in_ops a os x t

second_test : (a b : Bool) → T (cond a b false) → T b
second_test true b t = t
second_test false b t = absurd t

-- ---- what is known

cond_some : {A : Type 0} (b : Bool) (o : Option A) (q : A) → cond b o none ≡ some q → (b ≡ true) × (o ≡ some q)
cond_some true o q e = (refl, e)
cond_some false o q e = absurd (none-ne-some q e)

module _ (n : ℕ) (w : List ℕ) where
  sound_by : (l : Left) (r : ℕ) (q : Res) (o : Option ℕ) → row_of w n (number_of_left l) r ≡ o → known_by n w l r o ≡ some q → finished_rows n w l r ≡ some q
  unfolding comp
  sound_by l r q none i h = rw i h
  sound_by l r q (some k) i h = (cond_some (eqb (status w k) 2) (finished_rows n w l r) q h).1

  -- what is known has finished
  pub known_sound : Grows (known n w) (finished_rows n w)
  unfolding known
  known_sound l r q e = sound_by l r q (row_of w n (number_of_left l) r) refl e

  -- a pair with a left character: its last has the left's flag already
  pub last_left : (a r : ℕ) (q : Res) → known n w (chr a) r ≡ some q → (raised true false q).last ≡ q.last
  last_left a r q e =
      flag_in_ops a q.outs q.last
      (second_test (last_form r q.last) (ops_form (chr a) q.outs q.last) (form (rules n w) _ (chr a) r (known_sound (chr a) r q e)))

  pub known_free : (l : Left) (r : ℕ) → row_of w n (number_of_left l) r ≡ none → known n w l r ≡ some (record { outs = fin (head l); last = plain r })
  unfolding known
  known_free l r e = rw e

  module _ (a : Ascending n w) (j : ℕ) (h : j < n) where
    pub known_done : status w j ≡ 2 → known n w (pair_at w j).left (pair_at w j).right ≡ outcome n w j
    unfolding known
    known_done e = rw (row_at n w a j h, e)

    pub known_open : (status w j ≡ 2 → ⊥) → known n w (pair_at w j).left (pair_at w j).right ≡ none
    unfolding known
    known_open ne = rw (row_at n w a j h, ne_eqb (status w j) 2 ne)

    pub known_status : (q : Res) → known n w (pair_at w j).left (pair_at w j).right ≡ some q → status w j ≡ 2
    known_status q e = go (same_or_not (status w j) 2)
      where
        go : (status w j ≡ 2) ⊎ (status w j ≡ 2 → ⊥) → status w j ≡ 2
        go (inl i) = i
        go (inr ne) = absurd (none-ne-some q (sym (known_open ne) ∙ e))

    -- a row whose rule is done by what is known finishes so
    pub ready_finishes : (q : Res) → comp_by (rule_at w j) (known n w) (pair_at w j).left (pair_at w j).right ≡ some q → outcome n w j ≡ some q
    ready_finishes q e =
        let l = (pair_at w j).left in
        let r = (pair_at w j).right in
        sym (once_more (rules n w) (pairs n w) (covers_rows n w) l r)
        ∙ ap (λ R. comp_by R (finished_rows n w) l r) (rule_at_lem n w a j h)
        ∙ deeper_by (rule_at w j) (known n w) (finished_rows n w) known_sound l r e

-- as rows finish, more is known
module _ (n : ℕ) (w w' : List ℕ) (s : SameRules n w w') (fin-still : (k : ℕ) → k < n → status w k ≡ 2 → status w' k ≡ 2) where
  later_by : (l : Left) (r : ℕ) (q : Res) (o : Option ℕ) → row_of w n (number_of_left l) r ≡ o → known_by n w l r o ≡ some q → known_by n w' l r o ≡ some q
  later_by l r q none i h = h
  later_by l r q (some k) i h =
      let t = cond_some (eqb (status w k) 2) (finished_rows n w l r) q h in
      rw (fin-still k (row_found w (number_of_left l) r n k i).0 (eqb-true (status w k) 2 t.0)) (ap (λ (f : Finished). f l r) (finished_same n w w' s) ∙ t.1)

  pub known_later : Grows (known n w) (known n w')
  unfolding known
  known_later l r q e = rw (row_same n w w' s (number_of_left l) r) (later_by l r q (row_of w n (number_of_left l) r) refl e)

  pub waiting_later : Ascending n w' → (k j : ℕ) → k < n → Waiting n w k j → (status w' j ≡ 2 → ⊥) → Waiting n w' k j
  waiting_later a k j h t ne =
      let r = rule_at w k in
      let i = known_open n w' a j t.row ne in
      let z = s j 0 t.row (omega arith) in
      let o = s j 1 t.row (omega arith) in
      record {
        row = t.row;
        waits =
            rw (s k 0 h (omega arith), s k 1 h (omega arith), s k 3 h (omega arith), s k 4 h (omega arith), z, o)
            (waits_later (known n w) (known n w') known_later r (pair_at w k).left (pair_at w k).right (pair_at w j) t.waits (rw (z, o) at i));
      }

-- ---- what a pair's last says

module _ (n : ℕ) (w : List ℕ) (a : Ascending n w) where
  pub says_missing : (t r : ℕ) → r < 256 → row_of w n t r ≡ none → PairSays n w (left_of t) r (Known r 0)
  says_missing t r h e = (
    record { outs = fin (head (left_of t)); last = plain r },
    known_free n w (left_of t) r (rw (number_left t) e),
    record { is_code = refl; is_flag = refl; small = h },
  )

  -- the row of a pair that is found
  module _ (t r j : ℕ) (e : row_of w n t r ≡ some j) where
    pub found_less : j < n
    found_less = (row_found w t r n j e).0

    found_pair : pair_at w j ≡ record { left = left_of t; right = r }
    found_pair =
        let i = (row_found w t r n j e).1 in
        let z = i.0 in
        let o = i.1 in
        λ x. record { left = left_of (z x); right = o x }

    pub says_done : LastsStored n w → status w j ≡ 2 → PairSays n w (left_of t) r (Known (at w j 6) (at w j 7))
    says_done s d =
        let q = s.lasts j found_less d in
        let i = found_pair in
        (q.0, sym (λ x. known n w (i x).left (i x).right) ∙ known_done n w a j found_less d ∙ q.1, q.2)

    pub says_open : (status w j ≡ 2 → ⊥) → PairSays n w (left_of t) r (Waits j)
    says_open ne = (found_less, found_pair, ne)

pub says_small : (n : ℕ) (w : List ℕ) (l : Left) (r : ℕ) (x : Last) → PairSays n w l r x → code_of x < 256
says_small n w l r (Known c f) (q, e, i) = i.small
says_small n w l r (Waits j) s = omega arith

-- after a first pair
pub known_code : (x : Last) (c f : ℕ) → x ≡ Known c f → code_of x < 256 → c < 256
known_code x c f e h = rw e at h

pub second_known : (n : ℕ) (w : List ℕ) (r : ℕ) (x y : Last) (c f : ℕ) → x ≡ Known c f → PairSays n w (left_of (1 + c)) r y → SecondSays n w r x y
second_known n w r x y c f e s = rw e (rw (one-add c) at s)

pub second_waits : (n : ℕ) (w : List ℕ) (r : ℕ) (x : Last) (j : ℕ) → x ≡ Waits j → SecondSays n w r x (Waits j)
second_waits n w r x j e = rw e refl

-- ---- the arms of by_rule

-- an op of a row that is none of those that the arms above `_` name
abbrev OtherOp : ℕ → Type 0
OtherOp op = (op ≡ 5) ⊎ ((op ≡ 11) ⊎ (op ≡ 128))

pub other_op : (op v : ℕ) → rule_fits op v ≡ true → ((op ≡ 0) ⊎ (op ≡ 6) → ⊥) → ((op ≡ 1) ⊎ (op ≡ 7) → ⊥) → (op ≡ 2 → ⊥) → (op ≡ 3 → ⊥) →
    (op ≡ 5) ⊎ ((op ≡ 11) ⊎ (op ≡ 128))
other_op op v e a b c d = go (fits_eight op v e)
  where
    left_over : (s t : Bool) → eqb op 5 ≡ s → eqb op 11 ≡ t → (s || (t || false)) ≡ true → OtherOp op
    left_over true t i j h = inl (eqb-true op 5 i)
    left_over false true i j h = inr (inl (eqb-true op 11 j))
    left_over false false i j h = absurd (false≢true h)

    go : (op ≡ 128) ⊎ (one_of op eight ≡ true) → OtherOp op
    go (inl i) = inr (inr i)
    go (inr i) =
        left_over (eqb op 5) (eqb op 11) refl refl
        (rw (
          ne_eqb op 0 (λ x. a (inl x)),
          ne_eqb op 1 (λ x. b (inl x)),
          ne_eqb op 2 c,
          ne_eqb op 3 d,
          ne_eqb op 6 (λ x. a (inr x)),
          ne_eqb op 7 (λ x. b (inr x)),
        ) at i)

-- ---- what a rule says by what is known: TFtoPL 89's classes

-- the rule R of a left and a right
abbrev SaysBy : ℕ → List ℕ → Rule → Left → ℕ → Last → Type 0
SaysBy n w R l r (Known c f) = (q : Res) × (comp_by R (known n w) l r ≡ some q) × LastIs q c f
SaysBy n w R l r (Waits j) = (j < n) × (waits_by R (known n w) l r ≡ some (pair_at w j)) × (status w j ≡ 2 → ⊥)

same_last : (p q : Res) (c f : ℕ) → p.last ≡ q.last → LastIs q c f → LastIs p c f
same_last p q c f e i = record { is_code = i.is_code ∙ ap code (sym e); is_flag = i.is_flag ∙ ap (λ x. bit (flag x)) (sym e); small = i.small }

module _ (n : ℕ) (w : List ℕ) where
  says_inserted : (R : Rule) (l : Left) (r v : ℕ) (os : List Out) → v < 256 → comp_by R (known n w) l r ≡ some (record { outs = os; last = inserted v }) →
      SaysBy n w R l r (Known v 1)
  says_inserted R l r v os h e = (record { outs = os; last = inserted v }, e, record { is_code = refl; is_flag = refl; small = h })

  says_plain : (R : Rule) (l : Left) (r : ℕ) (os : List Out) → r < 256 → comp_by R (known n w) l r ≡ some (record { outs = os; last = plain r }) →
      SaysBy n w R l r (Known r 0)
  says_plain R l r os h e = (record { outs = os; last = plain r }, e, record { is_code = refl; is_flag = refl; small = h })

  -- left_z
  left_z : (l : Left) (r v : ℕ) (x : Last) → PairSays n w (chr v) r x → SaysBy n w (lig RetainRightMoveToInserted v) l r x
  left_z l r v (Known c f) (q, e, i) = (raised true false q, rw e, same_last (raised true false q) q c f (last_left n w v r q e) i)
  left_z l r v (Waits j) (h, e, ne) = (h, ap some (sym e), ne)

  left_z_after : (l : Left) (r v : ℕ) (x : Last) → PairSays n w (chr v) r x → SaysBy n w (lig RetainBothMoveToInserted v) l r x
  left_z_after l r v (Known c f) (q, e, i) =
      let p = before (fin (head l)) (raised true false q) in
      (p, rw e, same_last p q c f (last_left n w v r q e) i)
  left_z_after l r v (Waits j) (h, e, ne) = (h, ap some (sym e), ne)

  -- right_z
  right_z : (l : Left) (r v : ℕ) (x : Last) → PairSays n w l v x → SaysBy n w (lig RetainLeftMoveNowhere v) l r (flagged x)
  right_z l r v (Known c f) (q, e, i) = (
    raised false true q,
    rw e,
    record { is_code = i.is_code ∙ sym (code_raised false true q); is_flag = ap bit (sym (flag_raised false q)); small = i.small },
  )
  right_z l r v (Waits j) (h, e, ne) = (h, ap some (sym e), ne)

  -- both_z
  second_z : (l : Left) (r v : ℕ) (p : Res) → known n w l v ≡ some p → (x : Last) → PairSays n w (chr (code p.last)) r x →
      SaysBy n w (lig RetainBothMoveNowhere v) l r x
  second_z l r v p e (Known c f) (q, i, s) =
      let t = before (raised false true p).outs (raised true false q) in
      (t, rw (e, code_raised false true p, i), same_last t q c f (last_left n w (code p.last) r q i) s)
  second_z l r v p e (Waits j) (h, i, ne) = (h, rw e (ap some (sym i)), ne)

  both_z : Ascending n w → (l : Left) (r v : ℕ) (y x : Last) → PairSays n w l v y → SecondSays n w r y x → SaysBy n w (lig RetainBothMoveNowhere v) l r x
  both_z a l r v (Known c f) x (p, e, i) t = second_z l r v p e x (rw i.is_code at t)
  both_z a l r v (Waits j) x (h, e, ne) t =
      let i : known n w l v ≡ none = sym (λ z. known n w (e z).left (e z).right) ∙ known_open n w a j h ne in
      rw t (h, rw i (ap some (sym e)), ne)

-- ---- the same of a row

module _ (n : ℕ) (w : List ℕ) (k : ℕ) where
  abbrev RowSaysBy : ℕ → Last → Type 0
  RowSaysBy op x = SaysBy n w (rule_of op (at w k 4)) (pair_at w k).left (pair_at w k).right x

  says_row : (op : ℕ) (x : Last) → at w k 3 ≡ op → RowSaysBy op x → RuleSays n w k x
  says_row op (Known c f) e s = rw e s
  says_row op (Waits j) e (h, i, ne) = (record { row = h; waits = rw e i }, ne)

  pub row_inserted : (v : ℕ) → v ≡ at w k 4 → v < 256 → (at w k 3 ≡ 0) ⊎ (at w k 3 ≡ 6) → RuleSays n w k (Known v 1)
  row_inserted v e h (inl o) =
      says_row 0 (Known v 1) o (rw (← e) (says_inserted n w (lig RetainNeitherMoveToInserted v) (pair_at w k).left (at w k 1) v [] h refl))
  row_inserted v e h (inr o) =
      says_row 6 (Known v 1) o
      (rw (← e) (says_inserted n w (lig RetainLeftMoveToInserted v) (pair_at w k).left (at w k 1) v (fin (head (pair_at w k).left)) h refl))

  pub row_plain : (r : ℕ) → r ≡ at w k 1 → r < 256 → (at w k 3 ≡ 5) ⊎ ((at w k 3 ≡ 11) ⊎ (at w k 3 ≡ 128)) → RuleSays n w k (Known r 0)
  row_plain r e h (inl o) =
      says_row 5 (Known r 0) o
      (rw (← e) (says_plain n w (lig RetainRightMoveToRight (at w k 4)) (pair_at w k).left r (glyph (inserted (at w k 4)) ∷ []) h refl))
  row_plain r e h (inr (inl o)) =
      says_row 11 (Known r 0) o
      (rw (← e)
      (says_plain n w (lig RetainBothMoveToRight (at w k 4)) (pair_at w k).left r (fin (head (pair_at w k).left) ++ (glyph (inserted (at w k 4)) ∷ [])) h
      refl))
  row_plain r e h (inr (inr o)) =
      says_row 128 (Known r 0) o
      (rw (← e)
      (says_plain n w (kerned (number_of (at w k 4))) (pair_at w k).left r (fin (head (pair_at w k).left) ++ (kern (number_of (at w k 4)) ∷ [])) h refl))

  pub row_left : (v r : ℕ) (x : Last) → v ≡ at w k 4 → r ≡ at w k 1 → PairSays n w (left_of (1 + v)) r x → (at w k 3 ≡ 1) ⊎ (at w k 3 ≡ 7) → RuleSays n w k x
  row_left v r x e i s (inl o) = says_row 1 x o (rw (← e, ← i) (left_z n w (pair_at w k).left r v x (rw (one-add v) at s)))
  row_left v r x e i s (inr o) = says_row 7 x o (rw (← e, ← i) (left_z_after n w (pair_at w k).left r v x (rw (one-add v) at s)))

  pub row_right : (t v : ℕ) (x : Last) → t ≡ at w k 0 → v ≡ at w k 4 → PairSays n w (left_of t) v x → at w k 3 ≡ 2 → RuleSays n w k (flagged x)
  row_right t v x e i s o = says_row 2 (flagged x) o (rw (← e, ← i) (right_z n w (left_of t) (at w k 1) v x s))

  pub row_both : Ascending n w → (t r v : ℕ) (y x : Last) → t ≡ at w k 0 → r ≡ at w k 1 → v ≡ at w k 4 → PairSays n w (left_of t) v y → SecondSays n w r y x →
      at w k 3 ≡ 3 → RuleSays n w k x
  row_both a t r v y x e i j s u o = says_row 3 x o (rw (← e, ← i, ← j) (both_z n w a (left_of t) r v y x s u))
