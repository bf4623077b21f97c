-- A turn, the search from one row, and row after row: what the functions of the search ensure, from the laws of its state.
-- Assumes nothing.
use mathlib.Core.Path.{◌≡◌, ap, ◌∙◌, subst}
use mathlib.Core.List.{List}
use Prim.Native.Nat.{ℕ, zero, suc, ◌+◌, ◌-◌, ◌<◌, ◌≤◌}
use native.Mathlib.Numerals.{add-one}
use native.Mathlib.Omega.{arith}
use borrow.Author.Count.{below_more}
use Rattle.compiling.specs.declared.Last.{Last}
use Rattle.compiling.specs.declared.Progress.{Progress}
use Rattle.compiling.specs.declared.Last.TheVariants.{Known, Waits}
use Rattle.compiling.specs.Rows.{at, Encoded, SameRows}
use Rattle.compiling.specs.SettledRows.{Settled}
use Rattle.compiling.specs.SettleSteps.{status, Waiting, RuleSays, Searching, Stuck, opening, finishing, GivenUp, StillSeen, Advanced, Searched}
use Rattle.compiling.proofs.RowLaws.{same_rows_none, same_rows_more, settled_since}
use Rattle.compiling.proofs.Tally.{tally_few, tally_less}
use Rattle.compiling.proofs.Settling.{path_room, open_rows, searching_open, less_open, seen_open, finish_rows, searching_finish, less_finish}
use Rattle.compiling.proofs.Settling.{seen_finish, given_rows, searching_given, less_given, seen_given, searching_none, settled_end}
use Rattle.compiling.proofs.Stores.{Opens, opens, Finishes, finishes}

-- ---- a turn

-- a path has no more rows than there are, and its last is one of them; m rows are fewer than all while one is open
module _ {n h m : ℕ} (w : List ℕ) (s : Searching n w h m) where
  pub path_few : h ≤ n
  path_few = omega (arith, s.opened.count, tally_few (status w) 1 n)

  module _ (p : 0 < h) where
    pub top_row : at w (h - 1) 8 < n
    top_row = s.opened.row (h - 1) (omega arith)

    pub done_few : m < n
    done_few =
        omega (arith, s.done.count, tally_less (status w) 2 n (at w (h - 1) 8) top_row (λ e. omega (arith, s.opened.open_still (h - 1) (omega arith))))

module _ (n h m j : ℕ) (w w' : List ℕ) (s : Searching n w h m) (l : j < n) (e : status w j ≡ 0) (i : w' ≡ opening w j h) where
  opens_now : Opens w w' j h
  opens_now = rw i (opens w j h (omega (arith, s.encoded.ascending.room)) (omega (arith, s.encoded.ascending.room, path_room w s l e)))

pub turned_open : (n h m j : ℕ) (w w' : List ℕ) → Searching n w h m → Stuck n w h j → status w j ≡ 0 → w' ≡ opening w j h →
    Advanced n w w' h (record { path = h + 1; done = m })
turned_open n h m j w w' s t e i =
    let v = opens_now n h m j w w' s t.row e i in
    record {
      rows = open_rows n h m j w w' s t.row e t.waiting v;
      searching = rw (add-one h) (searching_open n h m j w w' s t.row e t.waiting v);
      less = rw (add-one h) (less_open n h m j w w' s t.row e t.waiting v);
      seen = seen_open n h m j w w' s t.row e t.waiting v;
    }

pub turned_given : (n h m j : ℕ) (w w' : List ℕ) → Searching n w h m → Stuck n w h j → (status w j ≡ 0 → ⊥) → GivenUp w w' h j 0 →
    Advanced n w w' h (record { path = 0; done = m })
turned_given n h m j w w' s t old g = record {
  rows = given_rows n h m j w w' s t old g;
  searching = searching_given n h m j w w' s t old g;
  less = less_given n h m j w w' s t old g;
  seen = seen_given n h m j w w' s t old g;
}

-- the last row of a path
module _ (n m : ℕ) (w : List ℕ) (k : ℕ) (x : Last) (says : RuleSays n w k x) where
  pub stuck : (h j : ℕ) → 0 < h → Searching n w h m → k ≡ at w (h - 1) 8 → x ≡ Waits j → Stuck n w h j
  stuck h j p s e i =
      let t : RuleSays n w k (Waits j) = rw i at says in
      record {
        row = t.0.row;
        some_open = p;
        unfinished = t.1;
        waiting = λ y q. let z : h - 1 ≡ y = omega arith in subst (λ u. Waiting n w u j) (e ∙ ap (λ u. at w u 8) z) t.0;
      }

  pub turned_finish : (h c f : ℕ) (w' : List ℕ) → 0 < h → Searching n w h m → k ≡ at w (h - 1) 8 → x ≡ Known c f → w' ≡ finishing w k m c f →
      Advanced n w w' h (record { path = h - 1; done = m + 1 })
  turned_finish zero c f w' p s e i v = absurd (omega arith)
  turned_finish (suc h) c f w' p s e i v =
      let z : suc h - 1 ≡ h = omega arith in
      let o : k ≡ at w h 8 = rw z at e in
      let t : RuleSays n w (at w h 8) (Known c f) = rw (o, i) at says in
      let l = s.opened.row h (omega arith) in
      let u : Finishes w w' (at w h 8) m c f = rw (v, o)
      (finishes w (at w h 8) m c f (omega (arith, s.encoded.ascending.room)) (omega (arith, s.encoded.ascending.room, done_few w s (omega arith)))) in
      record {
        rows = finish_rows n h m c f w w' s t u;
        searching = rw (z, add-one m) (searching_finish n h m c f w w' s t u);
        less = rw z (less_finish n h m c f w w' s t u);
        seen = seen_finish n h m c f w w' s t u;
      }

-- ---- the search from row k: w the rows as it begins, w' as it goes on

pub record Going (n : ℕ) (w w' : List ℕ) (k : ℕ) (p : Progress) : Type 0 where
  pub rows : SameRows n w w'
  pub searching : Searching n w' p.path p.done
  pub met : status w' k ≡ 0 → ⊥
  pub seen : StillSeen n w w'

no_waiting : {n j : ℕ} (w : List ℕ) → (i : ℕ) → suc i ≡ 0 → Waiting n w (at w i 8) j
no_waiting w i e = absurd (omega arith)

module _ (n m k : ℕ) (w w' : List ℕ) (s : Searching n w 0 m) (l : k < n) (e : status w k ≡ 0) (i : w' ≡ opening w k 0) where
  begins : Opens w w' k 0
  begins = opens_now n 0 m k w w' s l e i

  pub going_begin : Going n w' w' k (record { path = 1; done = m })
  going_begin = record {
    rows = same_rows_none n w';
    searching = searching_open n 0 m k w w' s l e (no_waiting w) begins;
    met = λ z. omega (arith, begins.status_is);
    seen = λ y a ne. ne;
  }

  pub going_end : (v : List ℕ) (p : Progress) → Going n w' v k p → p.path ≤ 0 → Searched n w v k p.done
  going_end v p g q =
      let z : p.path ≡ 0 = omega arith in
      record {
        rows = same_rows_more w w' v (open_rows n 0 m k w w' s l e (no_waiting w) begins) g.rows;
        searching = rw z at g.searching;
        met = g.met;
        seen = λ y a ne. g.seen y a (seen_open n 0 m k w w' s l e (no_waiting w) begins y a ne);
      }

pub going_more : (n k : ℕ) (w w' w'' : List ℕ) (p q : Progress) → k < n → Going n w w' k p → Advanced n w' w'' p.path q → Going n w w'' k q
going_more n k w w' w'' p q l g t = record {
  rows = same_rows_more w w' w'' g.rows t.rows;
  searching = t.searching;
  met = t.seen k l g.met;
  seen = λ y a ne. t.seen y a (g.seen y a ne);
}

-- ---- row after row: the first k rows are not new any more

pub record Passed (n : ℕ) (w w' : List ℕ) (m k : ℕ) : Type 0 where
  pub within : k ≤ n
  pub rows : SameRows n w w'
  pub searching : Searching n w' 0 m
  pub met : (i : ℕ) → i < k → status w' i ≡ 0 → ⊥

pub passed_none : (n : ℕ) (w : List ℕ) → Encoded n w → ((k : ℕ) → k < n → status w k ≡ 0) → Passed n w w 0 0
passed_none n w e new = record { within = omega arith; rows = same_rows_none n w; searching = searching_none w e new; met = λ i a. absurd (omega arith) }

module _ (n m k : ℕ) (w w' : List ℕ) (p : Passed n w w' m k) where
  module _ (l : k < n) where
    met_by : (v : List ℕ) → ((i : ℕ) → i < k → status v i ≡ 0 → ⊥) → (status v k ≡ 0 → ⊥) → (i : ℕ) → i < k + 1 → status v i ≡ 0 → ⊥
    met_by v all here = below_more (λ i. status v i ≡ 0 → ⊥) k all here

    old_by : (status w' k ≡ 0 → ⊥) → Passed n w w' m (k + 1)
    old_by ne = record { within = omega arith; rows = p.rows; searching = p.searching; met = met_by w' p.met ne }

    new_by : (w'' : List ℕ) (m' : ℕ) → Searched n w' w'' k m' → Passed n w w'' m' (k + 1)
    new_by w'' m' t = record {
      within = omega arith;
      rows = same_rows_more w w' w'' p.rows t.rows;
      searching = t.searching;
      met = met_by w'' (λ i a. t.seen i (omega arith) (p.met i a)) t.met;
    }

  pub passed_all : n ≤ k → Settled n w w' m
  passed_all q = settled_since n m w w' p.rows (settled_end n m w' p.searching (λ i a. p.met i (omega arith)))
