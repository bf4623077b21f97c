-- The state of the search: it holds of rows that are all new, each step keeps it, and where no row is open or new any more the rows are settled.
-- Assumes nothing.
use mathlib.Core.Path.{◌≡◌, refl, sym, ap, ◌∙◌, subst}
use mathlib.Core.List.{List, Memᴰ}
use mathlib.Core.Logic.{◌⊎◌, inl, inr}
use mathlib.Core.Option.{Option, none, some}
use Prim.Native.Nat.{ℕ, suc, ◌<◌}
use native.Mathlib.Nat.{eq-or-lt_of_le, le_of_suc-le-suc}
use native.Mathlib.Omega.{arith}
use lib.Dec.{eqb}
use borrow.Author.Tests.{ne_eqb}
use Rattle.words.proofs.Tests.{same_or_not}
use Rattle.reading.specs.Depth.{Res, Pair, waits_by}
use Rattle.reading.specs.Loops.{follow}
use Rattle.reading.proofs.Theorems.{never, right}
use Rattle.reading.proofs.Never.{not_both}
use Rattle.compiling.specs.declared.Last.TheVariants.{Known}
use Rattle.compiling.specs.Rows.{at, pair_at, rule_at, rules, Ascending, Encoded, SameRows}
use Rattle.compiling.specs.SettledRows.{finished_rows, outcome, consults, NeverRow, RowSays, Settled}
use Rattle.compiling.specs.SettleSteps.{status, known, LastsStored, Waiting, RuleSays, DoneRow, Done, Never, Searching, Stuck, GivenUp, remaining}
use Rattle.compiling.specs.SettleSteps.{StillSeen}
use Rattle.compiling.proofs.RowLaws.{SameRules, outcome_same, consults_same, ascending_same, encoded_same, same_rows_none, rule_at_lem}
use Rattle.compiling.proofs.Tally.{tally_few, tally_less, tally_same, tally_none, tally_up, tally_down, tally_still}
use Rattle.compiling.proofs.Known.{waits_later, consults_finished, known_sound, known_status, ready_finishes, waiting_later}
use Rattle.compiling.proofs.Stores.{rows_kept, Opens, Finishes, next_within, next_last}

-- the rows of finished pairs have their lasts stored
pub stored : {n h m : ℕ} (w : List ℕ) → Searching n w h m → LastsStored n w
stored w s = record { encoded = s.encoded; lasts = λ k l e. let d = s.done.rows k l e in (d.result, d.finishes, d.last) }

-- a place of a path, or the one after it
last_or_before : {i h : ℕ} → i < suc h → (i ≡ h) ⊎ (i < h)
last_or_before l = eq-or-lt_of_le (le_of_suc-le-suc l)

-- a number of no step is none of those that a step changes
outside : (f a : ℕ) → 4 < a → a < 12 → (f < 5) ⊎ (11 < f) → f ≡ a → ⊥
outside f a h l (inl p) e = omega arith
outside f a h l (inr p) e = omega arith

-- ---- a step by which no row finishes

record Quiet (n : ℕ) (w w' : List ℕ) : Type 0 where
  rows : SameRows n w w'
  same : (k f : ℕ) → f < 16 → (f ≡ 5 → ⊥) → (f ≡ 8 → ⊥) → (f ≡ 9 → ⊥) → at w' k f ≡ at w k f
  still : (k : ℕ) → k < n → status w k ≡ 2 → status w' k ≡ 2
  before : (k : ℕ) → k < n → status w' k ≡ 2 → status w k ≡ 2

module _ (n m : ℕ) (w w' : List ℕ) (q : Quiet n w w') where
  test_same : (k : ℕ) → k < n → eqb (status w' k) 2 ≡ eqb (status w k) 2
  test_same k h = go (same_or_not (status w k) 2)
    where
      go : (status w k ≡ 2) ⊎ (status w k ≡ 2 → ⊥) → eqb (status w' k) 2 ≡ eqb (status w k) 2
      go (inl e) = rw (e, q.still k h e)
      go (inr ne) = ne_eqb (status w' k) 2 (λ e. ne (q.before k h e)) ∙ sym (ne_eqb (status w k) 2 ne)

  number : (k f : ℕ) → 5 < f → f < 12 → (f ≡ 8 → ⊥) → (f ≡ 9 → ⊥) → at w' k f ≡ at w k f
  number k f a b c d = q.same k f (omega arith) (omega arith) c d

  code_same : (k : ℕ) → at w' k 6 ≡ at w k 6
  code_same k = number k 6 (omega arith) (omega arith) (omega arith) (omega arith)

  flag_same : (k : ℕ) → at w' k 7 ≡ at w k 7
  flag_same k = number k 7 (omega arith) (omega arith) (omega arith) (omega arith)

  order_same : (k : ℕ) → at w' k 10 ≡ at w k 10
  order_same k = number k 10 (omega arith) (omega arith) (omega arith) (omega arith)

  place_same : (k : ℕ) → at w' k 11 ≡ at w k 11
  place_same k = number k 11 (omega arith) (omega arith) (omega arith) (omega arith)

  done_row_kept : (k : ℕ) → k < n → DoneRow n w m k → DoneRow n w' m k
  done_row_kept k h d = record {
    result = d.result;
    finishes = outcome_same n w w' q.rows.same k h ∙ d.finishes;
    last = rw (code_same k, flag_same k) d.last;
    place = rw (place_same k) d.place;
    ordered = rw (place_same k) (order_same (at w k 11) ∙ d.ordered);
  }

  done_kept : Done n w m → Done n w' m
  done_kept d = record {
    rows = λ k h e. done_row_kept k h (d.rows k h (q.before k h e));
    order = λ i h. let o = d.order i h in rw (order_same i) (o.0, q.still (at w i 10) o.0 o.1, place_same (at w i 10) ∙ o.2);
    earlier = λ k j h l e t.
        let v = d.earlier k j h l (q.before k h e) (consults_same n w w' q.rows.same k j h l t) in
        (q.still j l v.0, rw (place_same j, place_same k) v.1);
    count = d.count ∙ sym (tally_same (status w) (status w') 2 n test_same);
  }

-- a step by which no row is given up
never_kept : (n : ℕ) (w w' : List ℕ) → SameRules n w w' → Ascending n w' → ((k : ℕ) → k < n → status w k ≡ 2 → status w' k ≡ 2) →
    ((k : ℕ) → k < n → status w' k ≡ 3 → status w k ≡ 3) → ((k : ℕ) → k < n → status w k ≡ 3 → status w' k ≡ 3) → ((k : ℕ) → at w' k 9 ≡ at w k 9) → Never n w →
    Never n w'
never_kept n w w' s a still back forth nine v k h e =
    let t = v k h (back k h e) in
    let u = forth (at w k 9) t.0.row t.1 in
    rw (nine k) (waiting_later n w w' s still a k (at w k 9) h t.0 (λ i. omega (arith, u)), u)

-- ---- a row opens

module _ (n h m j : ℕ) (w w' : List ℕ) (s : Searching n w h m) (l : j < n) (new : status w j ≡ 0) (top : (i : ℕ) → suc i ≡ h → Waiting n w (at w i 8) j)
    (o : Opens w w' j h) where
  -- rows of another status before it, and after it, are other rows
  not_new : (k : ℕ) → (status w k ≡ 0 → ⊥) → k ≡ j → ⊥
  not_new k ne e = ne (ap (status w) e ∙ new)

  not_opened : (k : ℕ) → (status w' k ≡ 1 → ⊥) → k ≡ j → ⊥
  not_opened k ne e = ne (ap (status w') e ∙ o.status_is)

  forth : (k v : ℕ) → 0 < v → status w k ≡ v → status w' k ≡ v
  forth k v p e = o.statuses k (not_new k (λ z. omega arith)) ∙ e

  back : (k v : ℕ) → (v ≡ 1 → ⊥) → status w' k ≡ v → status w k ≡ v
  back k v p e = sym (o.statuses k (not_opened k (λ z. p (sym e ∙ z)))) ∙ e

  pub open_rows : SameRows n w w'
  open_rows = rows_kept w w' o.same_length (λ k f a b. o.same k f a (outside f 5 (omega arith) (omega arith) b) (outside f 8 (omega arith) (omega arith) b))

  open_quiet : Quiet n w w'
  open_quiet =
      record
      { rows = open_rows; same = λ k f a p q r. o.same k f a p q; still = λ k a e. forth k 2 (omega arith) e; before = λ k a e. back k 2 (omega arith) e }

  open_ascending : Ascending n w'
  open_ascending = ascending_same n w w' open_rows.same o.same_length s.encoded.ascending

  -- a place of the path
  place_by : (i : ℕ) → i < h → at w' i 8 ≡ at w i 8
  place_by i a = o.entries i (λ e. omega arith)

  still_open : (i : ℕ) → i < h → status w' (at w i 8) ≡ 1
  still_open i a = forth (at w i 8) 1 (omega arith) (s.opened.open_still i a)

  open_row : (i : ℕ) → (i ≡ h) ⊎ (i < h) → (at w' i 8 < n) × (status w' (at w' i 8) ≡ 1)
  open_row i (inl e) = rw (e, o.entry_is) (l, o.status_is)
  open_row i (inr a) = rw (place_by i a) (s.opened.row i a, still_open i a)

  open_each : (k : ℕ) → k < n → status w' k ≡ 1 → (k ≡ j) ⊎ (k ≡ j → ⊥) → (i : ℕ) × (i < suc h) × (at w' i 8 ≡ k)
  open_each k a e (inl i) = (h, omega arith, o.entry_is ∙ sym i)
  open_each k a e (inr ne) =
      let t = s.opened.each k a (sym (o.statuses k ne) ∙ e) in
      (t.0, omega (arith, t.1), place_by t.0 t.1 ∙ t.2)

  other_place : (i : ℕ) → i < h → at w i 8 ≡ j → ⊥
  other_place i a e = not_new (at w i 8) (λ z. omega (arith, s.opened.open_still i a)) e

  open_once : (i x : ℕ) → (i ≡ h) ⊎ (i < h) → (x ≡ h) ⊎ (x < h) → at w' i 8 ≡ at w' x 8 → i ≡ x
  open_once i x (inl a) (inl b) e = omega arith
  open_once i x (inl a) (inr b) e = absurd (other_place x b (sym (place_by x b) ∙ sym e ∙ ap (λ y. at w' y 8) a ∙ o.entry_is))
  open_once i x (inr a) (inl b) e = absurd (other_place i a (sym (place_by i a) ∙ e ∙ ap (λ y. at w' y 8) b ∙ o.entry_is))
  open_once i x (inr a) (inr b) e = s.opened.once i x a b (sym (place_by i a) ∙ e ∙ place_by x b)

  later : (k x : ℕ) → k < n → Waiting n w k x → status w' x ≡ 1 → Waiting n w' k x
  later k x a t e = waiting_later n w w' open_rows.same (λ y b i. forth y 2 (omega arith) i) open_ascending k x a t (λ z. omega arith)

  open_waiting : (i : ℕ) → (suc i ≡ h) ⊎ (suc i < h) → Waiting n w' (at w' i 8) (at w' (suc i) 8)
  open_waiting i (inl e) = rw (place_by i (omega arith), e, o.entry_is) (later (at w i 8) j (s.opened.row i (omega arith)) (top i e) o.status_is)
  open_waiting i (inr a) =
      rw (place_by i (omega arith), place_by (suc i) a)
      (later (at w i 8) (at w (suc i) 8) (s.opened.row i (omega arith)) (s.opened.waiting i a) (still_open (suc i) a))

  change : (k : ℕ) → k < n → (k ≡ j → ⊥) → status w' k ≡ status w k
  change k a ne = o.statuses k ne

  open_status : (k : ℕ) → k < n → (k ≡ j) ⊎ (k ≡ j → ⊥) → status w' k < 4
  open_status k a (inl e) = omega (arith, ap (status w') e, o.status_is)
  open_status k a (inr ne) = omega (arith, o.statuses k ne, s.statuses k a)

  pub searching_open : Searching n w' (suc h) m
  searching_open = record {
    encoded = encoded_same n w w' open_rows.same o.same_length s.encoded;
    statuses = λ k a. open_status k a (same_or_not k j);
    done = done_kept n m w w' open_quiet s.done;
    never =
        never_kept n w w' open_rows.same open_ascending (λ k a e. forth k 2 (omega arith) e) (λ k a e. back k 3 (omega arith) e)
        (λ k a e. forth k 3 (omega arith) e)
        (λ k. o.same k 9 (omega arith) (omega arith) (omega arith)) s.never;
    opened = record {
      row = λ i a. (open_row i (last_or_before a)).0;
      open_still = λ i a. (open_row i (last_or_before a)).1;
      each = λ k a e. open_each k a e (same_or_not k j);
      once = λ i x a b e. open_once i x (last_or_before a) (last_or_before b) e;
      waiting = λ i a. open_waiting i (last_or_before a);
      count = ap suc s.opened.count ∙ sym (tally_up (status w) (status w') 1 j n l change (λ e. omega arith) o.status_is);
    };
  }

  pub less_open : remaining n w' (suc h) < remaining n w h
  less_open = omega (arith, tally_down (status w) (status w') 0 j n l change new (λ e. omega (arith, o.status_is)))

  pub seen_open : StillSeen n w w'
  seen_open k a ne e = ne (back k 0 (omega arith) e)

-- the path has room for one more row
pub path_room : {n h m j : ℕ} (w : List ℕ) → Searching n w h m → j < n → status w j ≡ 0 → h < n
path_room {n} {h} {m} {j} w s l e = omega (arith, s.opened.count, tally_less (status w) 1 n j l (λ i. omega arith))

-- ---- the last row of the path finishes

module _ (n h m c f : ℕ) (w w' : List ℕ) (s : Searching n w (suc h) m) (says : RuleSays n w (at w h 8) (Known c f)) (v : Finishes w w' (at w h 8) m c f) where
  abbrev own : ℕ
  own = at w h 8

  own_row : own < n
  own_row = s.opened.row h (omega arith)

  own_open : status w own ≡ 1
  own_open = s.opened.open_still h (omega arith)

  -- rows that were not open, and those that have not finished now, are other rows
  not_own : (k : ℕ) → (status w k ≡ 1 → ⊥) → k ≡ own → ⊥
  not_own k ne e = ne (ap (status w) e ∙ own_open)

  not_done : (k : ℕ) → (status w' k ≡ 2 → ⊥) → k ≡ own → ⊥
  not_done k ne e = ne (ap (status w') e ∙ v.status_is)

  other_status : (k : ℕ) → (k ≡ own → ⊥) → status w' k ≡ status w k
  other_status k ne = v.others k 5 (omega arith) (omega arith) ne

  kept_status : (k u : ℕ) → (u ≡ 1 → ⊥) → status w k ≡ u → status w' k ≡ u
  kept_status k u p e = other_status k (not_own k (λ z. p (sym e ∙ z))) ∙ e

  was_status : (k u : ℕ) → (u ≡ 2 → ⊥) → status w' k ≡ u → status w k ≡ u
  was_status k u p e = sym (other_status k (not_done k (λ z. p (sym e ∙ z)))) ∙ e

  other_place_of : (k : ℕ) → (k ≡ own → ⊥) → at w' k 11 ≡ at w k 11
  other_place_of k ne = v.others k 11 (omega arith) (omega arith) ne

  pub finish_rows : SameRows n w w'
  finish_rows =
      rows_kept w w' v.same_length
      (λ k g a b. v.same k g a (outside g 5 (omega arith) (omega arith) b) (outside g 6 (omega arith) (omega arith) b)
      (outside g 7 (omega arith) (omega arith) b) (outside g 10 (omega arith) (omega arith) b) (outside g 11 (omega arith) (omega arith) b))

  finish_ascending : Ascending n w'
  finish_ascending = ascending_same n w w' finish_rows.same v.same_length s.encoded.ascending

  own_done : DoneRow n w' (suc m) own
  own_done = record {
    result = says.0;
    finishes = outcome_same n w w' finish_rows.same own own_row ∙ ready_finishes n w s.encoded.ascending own own_row says.0 says.1;
    last = rw (v.code_is, v.flag_is) says.2;
    place = omega (arith, v.place_is);
    ordered = rw v.place_is v.order_is;
  }

  finish_row : (k : ℕ) → k < n → status w' k ≡ 2 → (k ≡ own) ⊎ (k ≡ own → ⊥) → DoneRow n w' (suc m) k
  finish_row k a e (inl i) = rw i own_done
  finish_row k a e (inr ne) =
      let d = s.done.rows k a (sym (other_status k ne) ∙ e) in
      record {
        result = d.result;
        finishes = outcome_same n w w' finish_rows.same k a ∙ d.finishes;
        last = rw (v.others k 6 (omega arith) (omega arith) ne, v.others k 7 (omega arith) (omega arith) ne) d.last;
        place = rw (other_place_of k ne) (omega (arith, d.place));
        ordered = rw (other_place_of k ne) (v.orders (at w k 11) (λ i. omega (arith, d.place)) ∙ d.ordered);
      }

  finish_order : (i : ℕ) → (i ≡ m) ⊎ (i < m) → (at w' i 10 < n) × (status w' (at w' i 10) ≡ 2) × (at w' (at w' i 10) 11 ≡ i)
  finish_order i (inl e) = rw (e, v.order_is) (own_row, v.status_is, v.place_is)
  finish_order i (inr a) =
      let o = s.done.order i a in
      let ne = not_own (at w i 10) (λ z. omega (arith, o.1)) in
      rw (v.orders i (λ e. omega arith)) (o.0, other_status (at w i 10) ne ∙ o.1, other_place_of (at w i 10) ne ∙ o.2)

  -- what goes into the row that finishes has finished before
  own_earlier : (j : ℕ) → j < n → Memᴰ (pair_at w j) (consults (rule_at w own) (finished_rows n w) (pair_at w own).left (pair_at w own).right) →
      (status w' j ≡ 2) × (at w' j 11 < at w' own 11)
  own_earlier j b t =
      let p = consults_finished (known n w) (finished_rows n w) (known_sound n w) (rule_at w own) (pair_at w own).left (pair_at w own).right says.0 says.1
      (pair_at w j) t in
      let e = known_status n w s.encoded.ascending j b p.0 p.1 in
      let ne = not_own j (λ z. omega (arith, e)) in
      (kept_status j 2 (omega arith) e, rw (other_place_of j ne, v.place_is) (s.done.rows j b e).place)

  finish_earlier : (k j : ℕ) → k < n → j < n → status w' k ≡ 2 →
      Memᴰ (pair_at w j) (consults (rule_at w k) (finished_rows n w) (pair_at w k).left (pair_at w k).right) → (k ≡ own) ⊎ (k ≡ own → ⊥) →
      (status w' j ≡ 2) × (at w' j 11 < at w' k 11)
  finish_earlier k j a b e t (inl i) = rw i (own_earlier j b (rw i at t))
  finish_earlier k j a b e t (inr ne) =
      let u = s.done.earlier k j a b (sym (other_status k ne) ∙ e) t in
      (kept_status j 2 (omega arith) u.0, rw (other_place_of j (not_own j (λ z. omega (arith, u.0))), other_place_of k ne) u.1)

  path_same : (i : ℕ) → at w' i 8 ≡ at w i 8
  path_same i = v.same i 8 (omega arith) (omega arith) (omega arith) (omega arith) (omega arith) (omega arith)

  path_other : (i : ℕ) → i < h → at w i 8 ≡ own → ⊥
  path_other i a e = omega (arith, s.opened.once i h (omega arith) (omega arith) e)

  path_open : (i : ℕ) → i < h → status w' (at w i 8) ≡ 1
  path_open i a = other_status (at w i 8) (path_other i a) ∙ s.opened.open_still i (omega arith)

  finish_each : (k : ℕ) → k < n → status w' k ≡ 1 → (i : ℕ) × (i < h) × (at w' i 8 ≡ k)
  finish_each k a e =
      let t = s.opened.each k a (was_status k 1 (omega arith) e) in
      let ne : t.0 ≡ h → ⊥ = λ i. not_done k (λ z. omega arith) (sym t.2 ∙ ap (λ y. at w y 8) i) in
      (t.0, omega (arith, t.1), path_same t.0 ∙ t.2)

  finish_waiting : (i : ℕ) → suc i < h → Waiting n w' (at w' i 8) (at w' (suc i) 8)
  finish_waiting i a =
      rw (path_same i, path_same (suc i))
      (waiting_later n w w' finish_rows.same (λ k b e. kept_status k 2 (omega arith) e) finish_ascending (at w i 8) (at w (suc i) 8)
      (s.opened.row i (omega arith)) (s.opened.waiting i (omega arith)) (λ z. omega (arith, path_open (suc i) a)))

  finish_status : (k : ℕ) → k < n → (k ≡ own) ⊎ (k ≡ own → ⊥) → status w' k < 4
  finish_status k a (inl e) = omega (arith, ap (status w') e, v.status_is)
  finish_status k a (inr ne) = omega (arith, other_status k ne, s.statuses k a)

  differs : (k : ℕ) → k < n → (k ≡ own → ⊥) → status w' k ≡ status w k
  differs k a ne = other_status k ne

  pub searching_finish : Searching n w' h (suc m)
  searching_finish = record {
    encoded = encoded_same n w w' finish_rows.same v.same_length s.encoded;
    statuses = λ k a. finish_status k a (same_or_not k own);
    done = record {
      rows = λ k a e. finish_row k a e (same_or_not k own);
      order = λ i a. finish_order i (last_or_before a);
      earlier = λ k j a b e t. finish_earlier k j a b e (consults_same n w w' finish_rows.same k j a b t) (same_or_not k own);
      count = ap suc s.done.count ∙ sym (tally_up (status w) (status w') 2 own n own_row differs (λ e. omega (arith, own_open)) v.status_is);
    };
    never =
        never_kept n w w' finish_rows.same finish_ascending (λ k a e. kept_status k 2 (omega arith) e) (λ k a e. was_status k 3 (omega arith) e)
        (λ k a e. kept_status k 3 (omega arith) e)
        (λ k. v.same k 9 (omega arith) (omega arith) (omega arith) (omega arith) (omega arith) (omega arith)) s.never;
    opened = record {
      row = λ i a. rw (path_same i) (s.opened.row i (omega arith));
      open_still = λ i a. rw (path_same i) (path_open i a);
      each = finish_each;
      once = λ i x a b e. s.opened.once i x (omega arith) (omega arith) (sym (path_same i) ∙ e ∙ path_same x);
      waiting = finish_waiting;
      count = omega (arith, s.opened.count, tally_down (status w) (status w') 1 own n own_row differs own_open (λ e. omega (arith, v.status_is)));
    };
  }

  pub less_finish : remaining n w' h < remaining n w (suc h)
  less_finish = omega (arith, tally_still (status w) (status w') 0 own n own_row differs (λ e. omega (arith, own_open)) (λ e. omega (arith, v.status_is)))

  pub seen_finish : StillSeen n w w'
  seen_finish k a ne e = ne (was_status k 0 (omega arith) e)

-- ---- the rows of the path never finish

module _ (n h m j : ℕ) (w w' : List ℕ) (s : Searching n w h m) (t : Stuck n w h j) (old : status w j ≡ 0 → ⊥) (g : GivenUp w w' h j 0) where
  off_path : (k : ℕ) → (status w k ≡ 1 → ⊥) → (status w' k ≡ status w k) × (at w' k 9 ≡ at w k 9)
  off_path k ne = g.kept k (λ x p q e. ne (sym (ap (status w) e) ∙ s.opened.open_still x q))

  on_path : (k : ℕ) → k < n → status w k ≡ 1 → status w' k ≡ 3
  on_path k a e =
      let i = s.opened.each k a e in
      sym (ap (status w') i.2) ∙ (g.given i.0 (omega arith) i.1).0

  stays : (k u : ℕ) → (u ≡ 1 → ⊥) → status w k ≡ u → status w' k ≡ u
  stays k u p e = (off_path k (λ z. p (sym e ∙ z))).0 ∙ e

  was : (k u : ℕ) → k < n → (u ≡ 3 → ⊥) → status w' k ≡ u → (status w k ≡ u) × (status w k ≡ 1 → ⊥)
  was k u a p e =
      let ne : status w k ≡ 1 → ⊥ = λ z. p (sym e ∙ on_path k a z) in
      (sym (off_path k ne).0 ∙ e, ne)

  pub given_rows : SameRows n w w'
  given_rows =
      rows_kept w w' g.same_length (λ k f a b. g.same k f a (outside f 5 (omega arith) (omega arith) b) (outside f 9 (omega arith) (omega arith) b))

  given_quiet : Quiet n w w'
  given_quiet =
      record
      { rows = given_rows; same = λ k f a p q r. g.same k f a p r; still = λ k a e. stays k 2 (omega arith) e; before = λ k a e. (was k 2 a (omega arith) e).0 }

  given_ascending : Ascending n w'
  given_ascending = ascending_same n w w' given_rows.same g.same_length s.encoded.ascending

  since : (k x : ℕ) → k < n → Waiting n w k x → status w' x ≡ 3 → Waiting n w' k x
  since k x a u e = waiting_later n w w' given_rows.same (λ y b i. stays y 2 (omega arith) i) given_ascending k x a u (λ z. omega arith)

  -- the row that the last of the path waits for
  next_given : (status w j ≡ 1) ⊎ (status w j ≡ 1 → ⊥) → status w' j ≡ 3
  next_given (inl e) = on_path j t.row e
  next_given (inr ne) = stays j 3 (omega arith) (omega (arith, s.statuses j t.row, old, t.unfinished))

  path_never : (x : ℕ) → x < h → (suc x ≡ h) ⊎ (suc x < h) → Waiting n w' (at w x 8) (at w' (at w x 8) 9) × (status w' (at w' (at w x 8) 9) ≡ 3)
  path_never x a (inl e) =
      let u = next_given (same_or_not (status w j) 1) in
      rw ((g.given x (omega arith) a).1, next_last w h j x e) (since (at w x 8) j (s.opened.row x a) (t.waiting x e) u, u)
  path_never x a (inr b) =
      let u = on_path (at w (suc x) 8) (s.opened.row (suc x) b) (s.opened.open_still (suc x) b) in
      rw ((g.given x (omega arith) a).1, next_within w h j x b) (since (at w x 8) (at w (suc x) 8) (s.opened.row x a) (s.opened.waiting x b) u, u)

  given_never : (k : ℕ) → k < n → status w' k ≡ 3 → (status w k ≡ 1) ⊎ (status w k ≡ 1 → ⊥) → Waiting n w' k (at w' k 9) × (status w' (at w' k 9) ≡ 3)
  given_never k a e (inl i) =
      let p = s.opened.each k a i in
      subst (λ y. Waiting n w' y (at w' y 9) × (status w' (at w' y 9) ≡ 3)) p.2 (path_never p.0 p.1 (eq-or-lt_of_le p.1))
  given_never k a e (inr ne) =
      let o = off_path k ne in
      let u = s.never k a (sym o.0 ∙ e) in
      let i = stays (at w k 9) 3 (omega arith) u.1 in
      rw o.1 (since k (at w k 9) a u.0 i, i)

  given_status : (k : ℕ) → k < n → (status w k ≡ 1) ⊎ (status w k ≡ 1 → ⊥) → status w' k < 4
  given_status k a (inl e) = omega (arith, on_path k a e)
  given_status k a (inr ne) = omega (arith, (off_path k ne).0, s.statuses k a)

  no_open : (k : ℕ) → k < n → status w' k ≡ 1 → ⊥
  no_open k a e = let o = was k 1 a (omega arith) e in o.1 o.0

  new_same : (k : ℕ) → k < n → (status w k ≡ 1) ⊎ (status w k ≡ 1 → ⊥) → eqb (status w' k) 0 ≡ eqb (status w k) 0
  new_same k a (inl e) = rw (e, on_path k a e)
  new_same k a (inr ne) = rw (off_path k ne).0

  pub searching_given : Searching n w' 0 m
  searching_given = record {
    encoded = encoded_same n w w' given_rows.same g.same_length s.encoded;
    statuses = λ k a. given_status k a (same_or_not (status w k) 1);
    done = done_kept n m w w' given_quiet s.done;
    never = λ k a e. given_never k a e (same_or_not (status w k) 1);
    opened = record {
      row = λ i a. absurd (omega arith);
      open_still = λ i a. absurd (omega arith);
      each = λ k a e. absurd (no_open k a e);
      once = λ i x a b e. absurd (omega arith);
      waiting = λ i a. absurd (omega arith);
      count = sym (tally_none (status w') 1 n no_open);
    };
  }

  pub less_given : remaining n w' 0 < remaining n w h
  less_given = omega (arith, t.some_open, tally_same (status w) (status w') 0 n (λ k a. new_same k a (same_or_not (status w k) 1)))

  pub seen_given : StillSeen n w w'
  seen_given k a ne e = ne (was k 0 a (omega arith) e).0

-- ---- the beginning and the end

pub searching_none : {n : ℕ} (w : List ℕ) → Encoded n w → ((k : ℕ) → k < n → status w k ≡ 0) → Searching n w 0 0
searching_none {n} w e new = record {
  encoded = e;
  statuses = λ k a. omega (arith, new k a);
  done = record {
    rows = λ k a i. absurd (omega (arith, new k a));
    order = λ i a. absurd (omega arith);
    earlier = λ k j a b i t. absurd (omega (arith, new k a));
    count = sym (tally_none (status w) 2 n (λ k a i. omega (arith, new k a)));
  };
  never = λ k a i. absurd (omega (arith, new k a));
  opened = record {
    row = λ i a. absurd (omega arith);
    open_still = λ i a. absurd (omega arith);
    each = λ k a i. absurd (omega (arith, new k a));
    once = λ i x a b e. absurd (omega arith);
    waiting = λ i a. absurd (omega arith);
    count = sym (tally_none (status w) 1 n (λ k a i. omega (arith, new k a)));
  };
}

module _ (n m : ℕ) (w : List ℕ) (s : Searching n w 0 m) (seen : (k : ℕ) → k < n → status w k ≡ 0 → ⊥) where
  abbrev Stays : Pair → Type 0
  Stays p = (k : ℕ) × (k < n) × (status w k ≡ 3) × (p ≡ pair_at w k)

  stays_waiting : (p : Pair) → Stays p → (q : Pair) × (waits_by (rules n w p.left p.right) (known n w) p.left p.right ≡ some q) × Stays q
  stays_waiting p (k, a, e, i) =
      let v = s.never k a e in
      let j = at w k 9 in
      (pair_at w j, rw i (rw (rule_at_lem n w s.encoded.ascending k a) v.0.waits), (j, v.0.row, v.1, refl))

  never_finishes : (k : ℕ) → k < n → status w k ≡ 3 → outcome n w k ≡ none
  never_finishes k a e = go (outcome n w k) refl
    where
      go : (o : Option Res) → outcome n w k ≡ o → outcome n w k ≡ none
      go none i = i
      go (some q) i =
          let r = right (rules n w) _ (pair_at w k).left (pair_at w k).right i in
          absurd
          (not_both (never (rules n w) (known n w) (λ l r q e. (_, known_sound n w l r q e)) Stays stays_waiting (pair_at w k) (k, a, e, refl) r.0)
          r.1)

  never_row : (k : ℕ) → k < n → status w k ≡ 3 → NeverRow n w w k
  never_row k a e =
      let v = s.never k a e in
      let j = at w k 9 in
      let u = waits_later (known n w) (finished_rows n w) (known_sound n w) (rule_at w k) (pair_at w k).left (pair_at w k).right (pair_at w j) v.0.waits
      (never_finishes j v.0.row v.1) in
      record {
        status = e;
        row = v.0.row;
        waits_for =
            sym (ap (follow (pair_at w k))
            (ap (λ R. waits_by R (finished_rows n w) (pair_at w k).left (pair_at w k).right) (rule_at_lem n w s.encoded.ascending k a) ∙ u));
      }

  row_says_by : (k : ℕ) → k < n → (status w k ≡ 2) ⊎ (status w k ≡ 2 → ⊥) → RowSays n w w m k (outcome n w k)
  row_says_by k a (inl e) =
      let d = s.done.rows k a e in
      rw d.finishes
      (record { status = e; last_code = d.last.is_code; last_flag_lem = d.last.is_flag; place = d.place; ordered = d.ordered })
  row_says_by k a (inr ne) =
      let closed : status w k ≡ 1 → ⊥ = λ i. omega (arith, (s.opened.each k a i).1) in
      let e : status w k ≡ 3 = omega (arith, s.statuses k a, seen k a) in
      rw (never_finishes k a e) (never_row k a e)

  pub settled_end : Settled n w w m
  settled_end = record {
    rows = same_rows_none n w;
    says = λ k a. row_says_by k a (same_or_not (status w k) 2);
    order = s.done.order;
    earlier = λ k j a b e i t. (s.done.earlier k j a b e t).1;
    few = omega (arith, s.done.count, tally_few (status w) 2 n);
  }
