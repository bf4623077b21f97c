-- The ops of a row: how many come before them, and the parts that they are made of, which are ops of rows that finished before, or single ops.
-- Assumes nothing.
use mathlib.Core.Path.{◌≡◌, refl, sym, ap, ◌∙◌, subst}
use mathlib.Core.Bool.{Bool, true, false, cond, ◌||◌, false≢true}
use mathlib.Core.List.{List, [], ◌∷◌, ◌++◌, append_assoc, append-nil, Memᴰ}
use mathlib.Core.Logic.{◌⊎◌, inl, inr}
use mathlib.Core.Option.{Option, none, some, map, map-eq-some_iff, some-injective, none-ne-some}
use Prim.Native.Nat.{ℕ, zero, suc, ◌+◌, ◌-◌, ◌*◌, ◌<◌, ◌≤◌}
use native.Mathlib.Nat.{eq-or-lt_of_le, le_of_suc-le-suc}
use native.Mathlib.Omega.{arith}
use lib.Dec.{eqb}
use lib.IntN.{ℤ}
use lib.ListN.{length, length-append}
use borrow.Author.Tests.{eqb-true, eqb-false, le-leb}
use Rattle.lang.specs.declared.operation.PostLigOperation.TheVariants.{RetainBothMoveNowhere, RetainBothMoveToInserted, RetainBothMoveToRight}
use Rattle.lang.specs.declared.operation.PostLigOperation.TheVariants.{RetainRightMoveToInserted, RetainRightMoveToRight, RetainLeftMoveNowhere}
use Rattle.lang.specs.declared.operation.PostLigOperation.TheVariants.{RetainLeftMoveToInserted, RetainNeitherMoveToInserted}
use Rattle.lang.specs.Operations.{is_standard, retains, keeps_left, keeps_right, advance}
use Rattle.lang.proofs.Arms.{one_of}
use Rattle.lang.proofs.Standard.{eight}
use Rattle.words.specs.Words.{number_of}
use Rattle.words.proofs.Lists.{get_d_tabulate}
use Rattle.reading.specs.Items.{Left, bnd, chr, Rule, free, kerned, lig, Rules, Item, item, code, plain, inserted, head, Out, glyph, kern, fin}
use Rattle.reading.specs.Depth.{Res, Finished, Pair, raise, before, raise_left, raised, comp_by, comp}
use Rattle.reading.specs.Loops.{Ruled}
use Rattle.reading.proofs.Flags.{raise_left_none, code_raised}
use Rattle.reading.proofs.Right.{both_finished}
use Rattle.reading.proofs.Enough.{once_more}
use Rattle.std.specs.Prelude.{Option as Answer, Some, None}
use Rattle.compiling.specs.declared.Part.{Part}
use Rattle.compiling.specs.declared.Part.TheVariants.{Nothing, Character, Ligature, Kern, OfRow}
use Rattle.compiling.specs.Rows.{at, pair_at, ruled_at, rule_of, rule_at, pairs, row_of, found_row, rule_by, rules, rule_fits, Encoded}
use Rattle.fonts.specs.Fonts.{left_of, number_of_left}
use Rattle.compiling.specs.SettledRows.{finished_rows, outcome, consults, second, FinishedRow, RowSays, Settled}
use Rattle.fonts.specs.Numbers.{nth, entry_of, ops_of, ops_before, out_numbers, op_numbers, ops_table, pair_numbers, pair_table}
use Rattle.compiling.specs.OpRows.{row_ops, op_total}
use Rattle.compiling.specs.OpSteps.{left_part, part_by, pair_part, last_by, row_last_code, first_of, second_of, first_part, second_part, LastFits, part_outs}
use Rattle.compiling.specs.OpSteps.{raised_outs}
use Rattle.compiling.proofs.RowLaws.{row_found, number_left, rule_at_lem, fits_parts, fits_eight, value_small, covers_rows}

-- ---- ops as numbers, and ops whose first character is a ligature

length_op : (o : Out) → length (out_numbers o) ≡ 2
length_op (glyph (item false c)) = refl
length_op (glyph (item true c)) = refl
length_op (kern k) = refl

pub length_numbers : (os : List Out) → length (op_numbers os) ≡ 2 * length os
unfolding op_numbers
length_numbers [] = refl
length_numbers (o ∷ os) = length-append (out_numbers o) (op_numbers os) ∙ omega (arith, length_op o, length_numbers os)

pub numbers_append : (os ps : List Out) → op_numbers (os ++ ps) ≡ op_numbers os ++ op_numbers ps
unfolding op_numbers
numbers_append [] ps = refl
numbers_append (o ∷ os) ps = ap (λ (r : List ℤ). out_numbers o ++ r) (numbers_append os ps) ∙ sym (append_assoc (out_numbers o) (op_numbers os) (op_numbers ps))

pub raised_outs_lem : (os : List Out) (x : Item) → (raise_left true os x).outs ≡ raised_outs os
unfolding raise_left raised_outs
raised_outs_lem [] x = refl
raised_outs_lem (glyph y ∷ os) x = refl
raised_outs_lem (kern k ∷ os) x = ap (λ (r : List Out). kern k ∷ r) (raised_outs_lem os x)

pub length_raised : (os : List Out) → length (raised_outs os) ≡ length os
unfolding raised_outs
length_raised [] = refl
length_raised (glyph y ∷ os) = refl
length_raised (kern k ∷ os) = ap suc (length_raised os)

-- ---- the rows in order

-- how many ops come before those of row k
abbrev pub ops_up_to : ℕ → List ℕ → ℕ → ℕ
ops_up_to n w k = ops_before (finished_rows n w) (pairs n w) k

module _ (n : ℕ) (w : List ℕ) (k : ℕ) (h : k < n) where
  nth_row : nth (pairs n w) k ≡ ruled_at w k
  nth_row = get_d_tabulate n (ruled_at w) k (record { pair = record { left = bnd; right = 0 }; index = 0 }) h

  entry_row : entry_of (finished_rows n w) (pairs n w) k ≡ outcome n w k
  entry_row = ap (λ (p : Ruled). finished_rows n w p.pair.left p.pair.right) nth_row

  pub before_more : ops_up_to n w (suc k) ≡ ops_up_to n w k + row_ops n w k
  unfolding ops_before
  before_more = ap (λ (o : Option Res). ops_up_to n w k + length (ops_of o)) entry_row

  pub ops_more : ops_table (finished_rows n w) (pairs n w) (suc k) ≡ ops_table (finished_rows n w) (pairs n w) k ++ op_numbers (ops_of (outcome n w k))
  unfolding ops_table
  ops_more = ap (λ (o : Option Res). ops_table (finished_rows n w) (pairs n w) k ++ op_numbers (ops_of o)) entry_row

  pub pairs_more : pair_table (finished_rows n w) (pairs n w) (suc k)
      ≡ pair_table (finished_rows n w) (pairs n w) k ++ pair_numbers (pair_at w k) (ops_up_to n w k) (outcome n w k)
  unfolding pair_table
  pairs_more =
      ap (λ (p : Ruled). pair_table (finished_rows n w) (pairs n w) k
      ++ pair_numbers p.pair (ops_up_to n w k) (finished_rows n w p.pair.left p.pair.right)) nth_row

module _ (n : ℕ) (w : List ℕ) where
  grows_by : (j k : ℕ) → (j ≤ k → ops_up_to n w j ≤ ops_up_to n w k) → (j ≡ suc k) ⊎ (j < suc k) → ops_up_to n w j ≤ ops_up_to n w (suc k)
  unfolding ops_before
  grows_by j k h (inl e) = rw e (omega arith)
  grows_by j k h (inr l) = omega (arith, h (le_of_suc-le-suc l))

  pub before_grows : (j k : ℕ) → j ≤ k → ops_up_to n w j ≤ ops_up_to n w k
  before_grows j zero h = let e : j ≡ 0 = omega arith in rw e (omega arith)
  before_grows j (suc k) h = grows_by j k (before_grows j k) (eq-or-lt_of_le h)

  -- the ops of a row come before those of a later one, and within the total
  pub ends_before : (j k : ℕ) → j < k → j < n → ops_up_to n w j + row_ops n w j ≤ ops_up_to n w k
  ends_before j k h l = omega (arith, before_more n w j l, before_grows (suc j) k h)

  pub ends_within : (k : ℕ) → k < n → ops_up_to n w k + row_ops n w k ≤ op_total n w
  ends_within k h = ends_before k n h h

-- ---- a rule's character is below 256, and so is the code of a last

abbrev RuleFits : Rule → Type 0
RuleFits free = Unit {0}
RuleFits (kerned k) = Unit {0}
RuleFits (lig o c) = c < 256

same_last : {p q : Res} → some p ≡ some q → code p.last < 256 → code q.last < 256
same_last {p} {q} e h = subst (λ (z : Res). code z.last < 256) (some-injective p q e) h

module _ (f : Finished) (small : (l : Left) (r : ℕ) (q : Res) → r < 256 → f l r ≡ some q → code q.last < 256) where
  mapped_last : (g : Res → Res) → ((p : Res) → code (g p).last ≡ code p.last) → (l : Left) (r : ℕ) {q : Res} → r < 256 → map g (f l r) ≡ some q →
      code q.last < 256
  mapped_last g same l r h e =
      let m = (map-eq-some_iff g (f l r)).0 e in
      subst (λ (z : Res). code z.last < 256) m.2 (rw (same m.0) (small l r m.0 h m.1))

  last_by_lem : (R : Rule) → RuleFits R → (l : Left) (r : ℕ) {q : Res} → r < 256 → comp_by R f l r ≡ some q → code q.last < 256
  last_by_lem free s l r h e = same_last e h
  last_by_lem (kerned k) s l r h e = same_last e h
  last_by_lem (lig RetainNeitherMoveToInserted c) s l r h e = same_last e s
  last_by_lem (lig RetainLeftMoveToInserted c) s l r h e = same_last e s
  last_by_lem (lig RetainRightMoveToRight c) s l r h e = same_last e h
  last_by_lem (lig RetainBothMoveToRight c) s l r h e = same_last e h
  last_by_lem (lig RetainRightMoveToInserted c) s l r h e = mapped_last (raised true false) (code_raised true false) (chr c) r h e
  last_by_lem (lig RetainBothMoveToInserted c) s l r h e = mapped_last (λ q. before (fin (head l)) (raised true false q)) (code_raised true false) (chr c) r h e
  last_by_lem (lig RetainLeftMoveNowhere c) s l r h e = mapped_last (raised false true) (code_raised false true) l c s e
  last_by_lem (lig RetainBothMoveNowhere c) s l r h e =
      let m = both_finished f r (raised false true) (f l c) e in
      subst (λ (z : Res). code z.last < 256) m.4
      (rw (code_raised true false m.2) (small (chr (code (raised false true m.0).last)) r m.2 h m.3))

last_deep : (rule : Rules) → ((l : Left) (r : ℕ) → RuleFits (rule l r)) → (d : ℕ) (l : Left) (r : ℕ) (q : Res) → r < 256 → comp rule d l r ≡ some q →
    code q.last < 256
unfolding comp
last_deep rule s zero l r q h e = absurd (none-ne-some q e)
last_deep rule s (suc d) l r q h e = last_by_lem (comp rule d) (last_deep rule s d) (rule l r) (s l r) l r h e

rule_fits_lem : (op v : ℕ) → rule_fits op v ≡ true → RuleFits (rule_of op v)
rule_fits_lem op v e = go (eqb op 128) refl (fits_parts op v e)
  where
    go : (b : Bool) → eqb op 128 ≡ b → (op ≡ 128) ⊎ ((op < 128) × (is_standard op ≡ true) × (v < 256)) →
        RuleFits (cond b (kerned (number_of v)) (lig (retains (keeps_left op) (keeps_right op) (advance op)) v))
    go true i p = tt
    go false i (inl j) = absurd (eqb-false op 128 i j)
    go false i (inr (l, j, s)) = s

rules_fit : (n : ℕ) (w : List ℕ) → Encoded n w → (l : Left) (r : ℕ) → RuleFits (rules n w l r)
rules_fit n w e l r = go (row_of w n (number_of_left l) r) refl
  where
    go : (o : Option ℕ) → row_of w n (number_of_left l) r ≡ o → RuleFits (rule_by w o)
    go none i = tt
    go (some k) i = rule_fits_lem (at w k 3) (at w k 4) (e.ops k (row_found w (number_of_left l) r n k i).0)

pub last_small : (n : ℕ) (w : List ℕ) → Encoded n w → (l : Left) (r : ℕ) (q : Res) → r < 256 → finished_rows n w l r ≡ some q → code q.last < 256
last_small n w e l r q h i = last_deep (rules n w) (rules_fit n w e) (suc (length (pairs n w))) l r q h i

-- ---- what the parts are

-- a pair's ops and last, by its row
record PairParts (n : ℕ) (w : List ℕ) (t r : ℕ) (p : Res) (o : Option ℕ) : Type 0 where
  outs : part_outs n w (part_by t o) ≡ p.outs
  last : last_by w r o ≡ code p.last
  row : (k : ℕ) → o ≡ some k → (k < n) × (at w k 5 ≡ 2) × (pair_at w k ≡ record { left = left_of t; right = r })

-- a row that finished before turn i
pub record Earlier (n : ℕ) (w : List ℕ) (i k : ℕ) : Type 0 where
  pub row : k < n
  pub status : at w k 5 ≡ 2
  pub turn : at w k 11 < i

-- a part that turn i can go by
abbrev pub Sound : ℕ → List ℕ → ℕ → Part → Type 0
Sound n w i Nothing = Unit {0}
Sound n w i (Character c) = c < 256
Sound n w i (Ligature c) = c < 256
Sound n w i (Kern v) = Unit {0}
Sound n w i (OfRow k) = Earlier n w i k

-- ops that are made of two parts
pub record RowParts (n : ℕ) (w : List ℕ) (i : ℕ) (a b : Part) (os : List Out) : Type 0 where
  pub first : Sound n w i a
  pub second : Sound n w i b
  pub outs : os ≡ part_outs n w a ++ raised_outs (part_outs n w b)

left_outs : (n : ℕ) (w : List ℕ) (t : ℕ) → part_outs n w (left_part t) ≡ fin (head (left_of t))
left_outs n w zero = refl
left_outs n w (suc c) = refl

sound_by : (n : ℕ) (w : List ℕ) (i t : ℕ) (o : Option ℕ) → t < 257 → ((k : ℕ) → o ≡ some k → Earlier n w i k) → Sound n w i (part_by t o)
sound_by n w i zero none h g = tt
sound_by n w i (suc c) none h g = omega arith
sound_by n w i t (some k) h g = g k refl

-- what holds at each of a list's numbers holds at a number that is one of them
abbrev All : (ℕ → Type 0) → List ℕ → Type 0
All P [] = Unit {0}
All P (x ∷ xs) = P x × All P xs

at_one_by : (P : ℕ → Type 0) (op x : ℕ) (b c : Bool) → eqb op x ≡ b → (b || c) ≡ true → P x → (c ≡ true → P op) → P op
at_one_by P op x true c i e p f = subst P (sym (eqb-true op x i)) p
at_one_by P op x false c i e p f = f e

at_one : (P : ℕ → Type 0) (op : ℕ) (xs : List ℕ) → one_of op xs ≡ true → All P xs → P op
at_one P op [] e a = absurd (false≢true e)
at_one P op (x ∷ xs) e a = at_one_by P op x (eqb op x) (one_of op xs) refl e a.0 (λ i. at_one P op xs i a.1)

module _ (n m : ℕ) (w : List ℕ) (e : Encoded n w) (s : Settled n w w m) where
  pub finished_row : (k : ℕ) → k < n → at w k 5 ≡ 2 → (q : Res) × (outcome n w k ≡ some q)
  finished_row k h t = go (outcome n w k) refl (s.says k h)
    where
      go : (o : Option Res) → outcome n w k ≡ o → RowSays n w w m k o → (q : Res) × (outcome n w k ≡ some q)
      go none i r = absurd (omega (arith, r.status))
      go (some q) i r = (q, i)

  pub row_finished : (k : ℕ) (q : Res) → k < n → outcome n w k ≡ some q → FinishedRow w m k q
  row_finished k q h i = subst (RowSays n w w m k) i (s.says k h)

  pub unfinished_row : (k : ℕ) → k < n → (at w k 5 ≡ 2 → ⊥) → outcome n w k ≡ none
  unfinished_row k h t = go (outcome n w k) refl (s.says k h)
    where
      go : (o : Option Res) → outcome n w k ≡ o → RowSays n w w m k o → outcome n w k ≡ none
      go none i r = i
      go (some q) i r = absurd (t r.status)

  pair_by : (t r : ℕ) (p : Res) (o : Option ℕ) → row_of w n t r ≡ o → finished_rows n w (left_of t) r ≡ some p → PairParts n w t r p o
  pair_by t r p none i f =
      let ruled : rules n w (left_of t) r ≡ free = ap (rule_by w) (ap (λ (x : ℕ). row_of w n x r) (number_left t) ∙ i) in
      let alone : Res = record { outs = fin (head (left_of t)); last = plain r } in
      let same : ◌≡◌ {A = Option Res} (some alone) (some p) = ap (λ (R : Rule). comp_by R (finished_rows n w) (left_of t) r) (sym ruled)
      ∙ once_more (rules n w) (pairs n w) (covers_rows n w) (left_of t) r ∙ f in
      let q : alone ≡ p = some-injective alone p same in
      record { outs = left_outs n w t ∙ ap (λ (z : Res). z.outs) q; last = ap (λ (z : Res). code z.last) q; row = λ k j. absurd (none-ne-some k j) }
  pair_by t r p (some k) i f =
      let found = row_found w t r n k i in
      let pair : pair_at w k ≡ record { left = left_of t; right = r } = λ j. record { left = left_of (found.1.0 j); right = found.1.1 j } in
      let out : outcome n w k ≡ some p = ap (λ (x : Pair). finished_rows n w x.left x.right) pair ∙ f in
      let says = row_finished k p found.0 out in
      record {
        outs = ap ops_of out;
        last = says.last_code;
        row =
            λ j l. subst (λ (z : ℕ). (z < n) × (at w z 5 ≡ 2) × (pair_at w z ≡ record { left = left_of t; right = r })) (some-injective k j l)
            (found.0, says.status, pair);
      }

  pair_parts : (t r : ℕ) (p : Res) → finished_rows n w (left_of t) r ≡ some p → PairParts n w t r p (row_of w n t r)
  pair_parts t r p f = pair_by t r p (row_of w n t r) refl f

  -- the rows that a rule consults finished before
  abbrev Before : ℕ → Rule → Left → ℕ → Type 0
  Before i R l r = (k : ℕ) → k < n → at w k 5 ≡ 2 → Memᴰ (pair_at w k) (consults R (finished_rows n w) l r) → at w k 11 < i

  pair_sound : (i t r : ℕ) (p : Res) → PairParts n w t r p (row_of w n t r) → t < 257 →
      ((k : ℕ) → k < n → at w k 5 ≡ 2 → pair_at w k ≡ record { left = left_of t; right = r } → at w k 11 < i) → Sound n w i (pair_part n w t r)
  pair_sound i t r p d h g =
      sound_by n w i t (row_of w n t r) h (λ k l. let x = d.row k l in record { row = x.0; status = x.1; turn = g k x.0 x.1 x.2 })

  -- a rule by its op: a left t with a right r, the op's value v, at turn i
  module _ (t v r i : ℕ) (q : Res) (left : t < 257) (right : r < 256) where
    abbrev Row : ℕ → Type 0
    Row op =
        (op < 128 → v < 256) → Before i (rule_of op v) (left_of t) r → comp_by (rule_of op v) (finished_rows n w) (left_of t) r ≡ some q →
        RowParts n w i (first_of n w op t v) (second_of n w op t v r) q.outs

    left_sound : Sound n w i (left_part t)
    left_sound = sound_by n w i t none left (λ k l. absurd (none-ne-some k l))

    -- done at once
    once : (a b : Part) (p : Res) → Sound n w i a → Sound n w i b → some p ≡ some q → p.outs ≡ part_outs n w a ++ raised_outs (part_outs n w b) →
        RowParts n w i a b q.outs
    once a b p x y j z = record { first = x; second = y; outs = sym (ap (λ (g : Res). g.outs) (some-injective p q j)) ∙ z }

    row-0 : Row 0
    unfolding first_of second_of raised_outs
    row-0 h g j = once Nothing Nothing (record { outs = []; last = inserted v }) tt tt j refl

    row-5 : Row 5
    unfolding first_of second_of raised_outs
    row-5 h g j = once Nothing (Ligature v) (record { outs = glyph (inserted v) ∷ []; last = plain r }) tt (h (omega arith)) j refl

    row-6 : Row 6
    unfolding first_of second_of raised_outs
    row-6 h g j =
        once (left_part t) Nothing (record { outs = fin (head (left_of t)); last = inserted v }) left_sound tt j
        (sym (append-nil (part_outs n w (left_part t)) ∙ left_outs n w t))

    row-11 : Row 11
    unfolding first_of second_of raised_outs
    row-11 h g j =
        once (left_part t) (Ligature v) (record { outs = fin (head (left_of t)) ++ (glyph (inserted v) ∷ []); last = plain r }) left_sound (h (omega arith)) j
        (ap (λ (x : List Out). x ++ (glyph (inserted v) ∷ [])) (sym (left_outs n w t)))

    row-128 : Row 128
    unfolding first_of second_of raised_outs
    row-128 h g j =
        once (left_part t) (Kern v) (record { outs = fin (head (left_of t)) ++ (kern (number_of v) ∷ []); last = plain r }) left_sound tt j
        (ap (λ (x : List Out). x ++ (kern (number_of v) ∷ [])) (sym (left_outs n w t)))

    -- then the inserted character with the right
    inserted-sound : v < 256 → (p : Res) → PairParts n w (suc v) r p (row_of w n (suc v) r) →
        ((k : ℕ) → k < n → at w k 5 ≡ 2 → Memᴰ (pair_at w k) (record { left = chr v; right = r } ∷ []) → at w k 11 < i) →
        Sound n w i (pair_part n w (suc v) r)
    inserted-sound h p d g = pair_sound i (suc v) r p d (omega arith) (λ k l x y. g k l x (Memᴰ.head y))

    row-1 : Row 1
    unfolding first_of second_of
    row-1 h g j =
        let z = (map-eq-some_iff (raised true false) (finished_rows n w (chr v) r)).0 j in
        let d = pair_parts (suc v) r z.0 z.1 in
        record {
          first = tt;
          second = inserted-sound (h (omega arith)) z.0 d g;
          outs = sym (ap (λ (x : Res). x.outs) z.2) ∙ raised_outs_lem z.0.outs (raise false z.0.last) ∙ ap raised_outs (sym d.outs);
        }

    row-7 : Row 7
    unfolding first_of second_of
    row-7 h g j =
        let z = (map-eq-some_iff (λ (x : Res). before (fin (head (left_of t))) (raised true false x)) (finished_rows n w (chr v) r)).0 j in
        let d = pair_parts (suc v) r z.0 z.1 in
        record {
          first = left_sound;
          second = inserted-sound (h (omega arith)) z.0 d g;
          outs =
              sym (ap (λ (x : Res). x.outs) z.2)
              ∙ ap (λ (x : List Out). fin (head (left_of t)) ++ x) (raised_outs_lem z.0.outs (raise false z.0.last) ∙ ap raised_outs (sym d.outs))
              ∙ ap (λ (x : List Out). x ++ raised_outs (part_outs n w (pair_part n w (suc v) r))) (sym (left_outs n w t));
        }

    -- the left with the inserted character
    row-2 : Row 2
    unfolding first_of second_of raised_outs
    row-2 h g j =
        let z = (map-eq-some_iff (raised false true) (finished_rows n w (left_of t) v)).0 j in
        let d = pair_parts t v z.0 z.1 in
        record {
          first = pair_sound i t v z.0 d left (λ k l x y. g k l x (Memᴰ.head y));
          second = tt;
          outs =
              sym (ap (λ (x : Res). x.outs) z.2)
              ∙ ap (λ (x : Res). x.outs) (raise_left_none z.0.outs (raise true z.0.last))
              ∙ sym (append-nil (part_outs n w (pair_part n w t v)) ∙ d.outs);
        }

    -- and then its last with the right
    row-3 : Row 3
    unfolding first_of second_of
    row-3 h g j =
        let z = both_finished (finished_rows n w) r (raised false true) (finished_rows n w (left_of t) v) j in
        let d = pair_parts t v z.0 z.1 in
        let c = row_last_code n w t v in
        let f : finished_rows n w (chr c) r ≡ some z.2 = ap (λ (x : ℕ). finished_rows n w (chr x) r) (d.last ∙ sym (code_raised false true z.0)) ∙ z.3 in
        let b = pair_parts (suc c) r z.2 f in
        let small : c < 256 = rw d.last (last_small n w e (left_of t) v z.0 (h (omega arith)) z.1) in
        record {
          first = pair_sound i t v z.0 d left (λ k l x y. g k l x (Memᴰ.head y));
          second =
              pair_sound i (suc c) r z.2 b (omega arith)
              (λ k l x y. g k l x (later k z.0 z.1 (y ∙ ap {B = Pair} (λ (a : ℕ). record { left = chr a; right = r }) d.last)));
          outs =
              sym (ap (λ (x : Res). x.outs) z.4)
              ∙ ap (λ (x : Res). x.outs ++ (raised true false z.2).outs) (raise_left_none z.0.outs (raise true z.0.last))
              ∙ ap (λ (x : List Out). z.0.outs ++ x) (raised_outs_lem z.2.outs (raise false z.2.last) ∙ ap raised_outs (sym b.outs))
              ∙ ap (λ (x : List Out). x ++ raised_outs (part_outs n w (pair_part n w (suc c) r))) (sym d.outs);
        }
      where
        later : (k : ℕ) (p : Res) → finished_rows n w (left_of t) v ≡ some p → pair_at w k ≡ record { left = chr (code p.last); right = r } →
            Memᴰ (pair_at w k) (record { left = left_of t; right = v } ∷ second r (finished_rows n w (left_of t) v))
        later k p f y =
            subst (λ (o : Option Res). Memᴰ (pair_at w k) (record { left = left_of t; right = v } ∷ second r o)) (sym f) (Memᴰ.tail (Memᴰ.head y))

    row_by : (op : ℕ) → rule_fits op v ≡ true → Row op
    row_by op fits = go (fits_eight op v fits)
      where
        go : (op ≡ 128) ⊎ (one_of op eight ≡ true) → Row op
        go (inl j) = subst Row (sym j) row-128
        go (inr j) = at_one Row op eight j (row-0, (row-1, (row-2, (row-3, (row-5, (row-6, (row-7, (row-11, tt))))))))

  comp_row : (k : ℕ) → k < n → comp_by (rule_at w k) (finished_rows n w) (left_of (at w k 0)) (at w k 1) ≡ outcome n w k
  comp_row k h =
      ap (λ (R : Rule). comp_by R (finished_rows n w) (left_of (at w k 0)) (at w k 1)) (sym (rule_at_lem n w e.ascending k h))
      ∙ once_more (rules n w) (pairs n w) (covers_rows n w) (left_of (at w k 0)) (at w k 1)

  -- The ops of a finished row are made of its two parts.
  row_parts : (k : ℕ) (q : Res) → k < n → outcome n w k ≡ some q → RowParts n w (at w k 11) (first_part n w k) (second_part n w k) q.outs
  row_parts k q h o =
      row_by (at w k 0) (at w k 4) (at w k 1) (at w k 11) q (e.ascending.left k h) (e.ascending.right k h) (at w k 3) (e.ops k h)
      (value_small (at w k 3) (at w k 4) (e.ops k h))
      (λ j l x y. s.earlier k j h l (row_finished k q h o).status x y)
      (comp_row k h ∙ o)

  -- and it consults a last that is a character
  last_fits : (k : ℕ) (q : Res) → k < n → outcome n w k ≡ some q → LastFits n w k
  last_fits k q h o j =
      let l = left_of (at w k 0) in
      let v = at w k 4 in
      let x : comp_by (rule_of 3 v) (finished_rows n w) l (at w k 1)
      ≡ some q = ap (λ (op : ℕ). comp_by (rule_of op v) (finished_rows n w) l (at w k 1)) (sym j) ∙ comp_row k h ∙ o in
      let z = both_finished (finished_rows n w) (at w k 1) (raised false true) (finished_rows n w l v) x in
      rw (pair_parts (at w k 0) v z.0 z.1).last (last_small n w e l v z.0 (value_small (at w k 3) v (e.ops k h) (omega arith)) z.1)

  -- the same of a row whose status says that it finishes
  pub parts_of : (k : ℕ) → k < n → at w k 5 ≡ 2 → RowParts n w (at w k 11) (first_part n w k) (second_part n w k) (ops_of (outcome n w k))
  parts_of k h t =
      let q = finished_row k h t in
      subst (λ (o : Option Res). RowParts n w (at w k 11) (first_part n w k) (second_part n w k) (ops_of o)) (sym q.1) (row_parts k q.0 h q.1)

  pub last_of : (k : ℕ) → k < n → at w k 5 ≡ 2 → LastFits n w k
  last_of k h t = let q = finished_row k h t in last_fits k q.0 h q.1

  pub count_parts : (k : ℕ) → k < n → at w k 5 ≡ 2 → row_ops n w k ≡ length (part_outs n w (first_part n w k)) + length (part_outs n w (second_part n w k))
  count_parts k h t =
      let a = part_outs n w (first_part n w k) in
      let b = part_outs n w (second_part n w k) in
      ap length (parts_of k h t).outs ∙ length-append a (raised_outs b) ∙ ap (λ (x : ℕ). length a + x) (length_raised b)

-- ---- the parts as code finds them

pub found_some : {x : Answer ℕ} (o : Option ℕ) {k : ℕ} → x ≡ found_row o → x ≡ Some k → o ≡ some k
found_some none e f = let z : ◌≡◌ {A = ℕ} 0 1 = cc in absurd (omega arith)
found_some (some j) e f = cc

pub missing_none : {x : Answer ℕ} (o : Option ℕ) → x ≡ found_row o → x ≡ None → o ≡ none
missing_none none e f = refl
missing_none (some j) e f = let z : ◌≡◌ {A = ℕ} 0 1 = cc in absurd (omega arith)

pub left_is : (t : ℕ) → (t ≡ 0 → ⊥) → Character (t - 1) ≡ left_part t
left_is zero h = absurd (h refl)
left_is (suc c) h = let e : suc c - 1 ≡ c = omega arith in ap Character e

module _ (n : ℕ) (w : List ℕ) (op t v r : ℕ) where
  pub first_high : 6 ≤ op → left_part t ≡ first_of n w op t v
  unfolding first_of
  first_high h = rw (le-leb 6 op h)

  pub second_kern : op ≡ 128 → Kern v ≡ second_of n w op t v r
  unfolding second_of
  second_kern j = rw j

-- a character that the op of row k inserts
pub small_value : (n : ℕ) (w : List ℕ) (k : ℕ) → Encoded n w → k < n → {op v : ℕ} → op ≡ at w k 3 → v ≡ at w k 4 → op < 128 → v < 256
small_value n w k e h i j l = omega (arith, value_small (at w k 3) (at w k 4) (e.ops k h) (omega arith))
