-- How many rows finish: as many as the pair table has pairs. The rows that finished before the i-th are i, since each place has one row and each row one place.
-- Assumes nothing.
use mathlib.Core.Path.{◌≡◌, refl, sym, ap, ◌∙◌}
use mathlib.Core.Bool.{Bool, true, false, cond}
use mathlib.Core.List.{List}
use mathlib.Core.Logic.{◌⊎◌, inl, inr}
use Prim.Native.Nat.{ℕ, zero, suc, ◌*◌, ◌<◌, ◌≤◌}
use native.Mathlib.Omega.{arith}
use lib.Dec.{ltb, eqb}
use lib.ListN.{length, length-append}
use borrow.Author.Tests.{lt-ltb, le-ltb, eq-eqb, ne_eqb}
use Rattle.words.proofs.Tests.{same_or_not, less_or_not}
use Rattle.reading.specs.Loops.{finished}
use Rattle.fonts.specs.Fonts.{Font, pairs_of, rules_of}
use Rattle.fonts.specs.Numbers.{pair_numbers, pair_table}
use Rattle.fonts.specs.Compiled.{font_table, table_pairs}
use Rattle.compiling.specs.Rows.{at, pair_at, pairs, rules, Encoded}
use Rattle.compiling.specs.SettledRows.{bit, finished_rows, outcome, Settled}
use Rattle.compiling.specs.SettleSteps.{tally, status}
use Rattle.compiling.specs.OpRows.{pairs_written}
use Rattle.compiling.proofs.Tally.{tally_same, tally_none, tally_up}
use Rattle.compiling.proofs.OpLaws.{ops_up_to, pairs_more, finished_row, row_finished, unfinished_row}

-- 2 where row k finished among the first i
abbrev among_first : List ℕ → ℕ → ℕ → ℕ
among_first w i k = cond (eqb (at w k 5) 2) (cond (ltb (at w k 11) i) 2 0) 0

not_among : (w : List ℕ) (i k : ℕ) → i ≤ at w k 11 → among_first w i k ≡ 0
not_among w i k h = rw (le-ltb (at w k 11) i h) (by (eqb (at w k 5) 2))
  where
    by : (b : Bool) → ◌≡◌ {A = ℕ} (cond b 0 0) 0
    by true = refl
    by false = refl

module _ (n m : ℕ) (w : List ℕ) (e : Encoded n w) (s : Settled n w w m) where
  -- the place of a finished row, which names it
  place_named : (k : ℕ) → k < n → at w k 5 ≡ 2 → (at w k 11 < m) × (at w (at w k 11) 10 ≡ k)
  place_named k h t =
      let q = finished_row n m w e s k h t in
      let r = row_finished n m w e s k q.0 h q.1 in
      (r.place, r.ordered)

  among_by : (i k : ℕ) → k < n → (k ≡ at w i 10 → ⊥) → (at w k 5 ≡ 2) ⊎ (at w k 5 ≡ 2 → ⊥) → (at w k 11 < i) ⊎ (i ≤ at w k 11) →
      among_first w (suc i) k ≡ among_first w i k
  among_by i k h ne (inr t) l = rw (ne_eqb (at w k 5) 2 t)
  among_by i k h ne (inl t) (inl l) = rw (lt-ltb (at w k 11) (suc i) (omega arith), lt-ltb (at w k 11) i l)
  among_by i k h ne (inl t) (inr l) = go (same_or_not (at w k 11) i)
    where
      go : (at w k 11 ≡ i) ⊎ (at w k 11 ≡ i → ⊥) → among_first w (suc i) k ≡ among_first w i k
      go (inl x) = absurd (ne (sym (place_named k h t).1 ∙ ap (λ (j : ℕ). at w j 10) x))
      go (inr x) = not_among w (suc i) k (omega arith) ∙ sym (not_among w i k l)

  among_count : (i : ℕ) → i ≤ m → tally (among_first w i) 2 n ≡ i
  among_count zero h = tally_none (among_first w 0) 2 n (λ k l x. omega (arith, not_among w 0 k (omega arith)))
  among_count (suc i) h =
      let o = s.order i h in
      let j = at w i 10 in
      tally_up (among_first w i) (among_first w (suc i)) 2 j n o.0
      (λ k l ne. among_by i k l ne (same_or_not (at w k 5) 2) (less_or_not (at w k 11) i))
      (λ x. omega (arith, not_among w i j (omega (arith, o.2))))
      (rw (eq-eqb (at w j 5) 2 o.1, lt-ltb (at w j 11) (suc i) (omega (arith, o.2))))
      ∙ ap suc (among_count i (omega arith))

  among_all : (k : ℕ) → k < n → (at w k 5 ≡ 2) ⊎ (at w k 5 ≡ 2 → ⊥) → eqb (at w k 5) 2 ≡ eqb (among_first w m k) 2
  among_all k h (inl t) = rw (eq-eqb (at w k 5) 2 t, lt-ltb (at w k 11) m (place_named k h t).0)
  among_all k h (inr t) = rw (ne_eqb (at w k 5) 2 t)

  finish_count : tally (status w) 2 n ≡ m
  finish_count = tally_same (among_first w m) (status w) 2 n (λ k h. among_all k h (same_or_not (at w k 5) 2)) ∙ among_count m (omega arith)

  numbers_by : (k : ℕ) → k < n → (at w k 5 ≡ 2) ⊎ (at w k 5 ≡ 2 → ⊥) →
      length (pair_numbers (pair_at w k) (ops_up_to n w k) (outcome n w k)) ≡ 6 * bit (eqb (at w k 5) 2)
  numbers_by k h (inl t) = rw ((finished_row n m w e s k h t).1, eq-eqb (at w k 5) 2 t)
  numbers_by k h (inr t) = rw (unfinished_row n m w e s k h t, ne_eqb (at w k 5) 2 t)

  -- six numbers for each row that finishes
  six_each : (k : ℕ) → k ≤ n → length (pair_table (finished_rows n w) (pairs n w) k) ≡ 6 * tally (status w) 2 k
  unfolding pair_table tally
  six_each zero h = refl
  six_each (suc k) h =
      ap length (pairs_more n w k h)
      ∙ length-append (pair_table (finished_rows n w) (pairs n w) k) (pair_numbers (pair_at w k) (ops_up_to n w k) (outcome n w k))
      ∙ omega (arith, six_each k (omega arith), numbers_by k h (same_or_not (at w k 5) 2))

module _ (f : Font) (n : ℕ) (w : List ℕ) (p : pairs n w ≡ pairs_of f) (q : rules n w ≡ rules_of f) (c : n ≡ length (pairs_of f)) where
  -- what the rows say of the table is what the font's definitions say
  pub table_written : pairs_written n w ≡ font_table f
  table_written i = pair_table (finished (q i) (p i)) (p i) (c i)

  -- as many rows finish as the table has pairs
  pub finished_count : (m : ℕ) → Encoded n w → Settled n w w m → m ≡ table_pairs f
  finished_count m e s =
      let t : length (font_table f) ≡ 6 * m = ap length (sym table_written) ∙ six_each n m w e s n (omega arith)
      ∙ ap (λ (j : ℕ). 6 * j) (finish_count n m w e s) in
      omega arith
