-- What is reachable (specs/Reached): `reached-exactly`. A chain only goes forward, so that one pass in order marks all of it.
-- Assumes nothing.
use mathlib.Core.Path.{◌≡◌, refl, sym, ap, ◌∙◌}
use mathlib.Core.Bool.{Bool, true, false, cond}
use mathlib.Core.List.{List, [], ◌∷◌, Memᴰ}
use mathlib.Core.Logic.{◌⊎◌, inl, inr}
use Prim.Native.Nat.{ℕ, zero, suc, ◌+◌, ◌/◌, ◌<◌, ◌≤◌}
use native.Mathlib.Nat.{eq-or-lt_of_le, le_of_suc-le-suc}
use native.Mathlib.Omega.{arith}
use lib.IntN.{ℤ}
use lib.Dec.{ltb, eqb}
use lib.ListN.{length, get_or, set, replicate}
use lib.Seq.{get_or-set_same}
use borrow.Author.Tests.{ltb-true, eqb-true, eqb-false}
use Rattle.words.specs.Words.{word_of}
use Rattle.lang.specs.Records.{count, instruction_at}
use Rattle.lang.specs.Checks.{entry_at}
use Rattle.program_chain.specs.Chains.{Program, onward_from, chain_from, chain}
use Rattle.program_chain.proofs.Walks.{onward_ascends, chain_whole, chain_step}
use Rattle.reach_marks.specs.Marks.{entries_marked, marks_after, reachable}
use Rattle.reach_marks.specs.Reached.{Starts, entry, boundary, OnChain, ReachedExactly}
use Rattle.reach_marks.proofs.Marks.{length_entries, length_marks}

-- ---- marks of a list

abbrev Marked : List ℕ → ℕ → Type 0
Marked m i = get_or m i 0 ≡ 0 → ⊥

set_keeps : (m : List ℕ) (j i : ℕ) → Marked m i → Marked (set m j 1) i
set_keeps [] j i h e = h refl
set_keeps (x ∷ m) zero zero h e = omega arith
set_keeps (x ∷ m) zero (suc i) h e = h e
set_keeps (x ∷ m) (suc j) zero h e = h e
set_keeps (x ∷ m) (suc j) (suc i) h e = set_keeps m j i h e

set_marks : (m : List ℕ) (j : ℕ) → j < length m → Marked (set m j 1) j
set_marks m j h e = omega (arith, get_or-set_same m j 1 0 h)

further : {A : Type 0} {i j n : ℕ} → ((i ≡ j) × (i < n)) ⊎ A → ((suc i ≡ suc j) × (suc i < suc n)) ⊎ A
further (inl e) = inl (ap suc e.0, omega (arith, e.1))
further (inr a) = inr a

-- what is marked after a store is the place of the store, or was marked before
set_either : (m : List ℕ) (j i : ℕ) → Marked (set m j 1) i → ((i ≡ j) × (i < length m)) ⊎ Marked m i
set_either [] j i h = inr h
set_either (x ∷ m) zero zero h = inl (refl, omega arith)
set_either (x ∷ m) zero (suc i) h = inr h
set_either (x ∷ m) (suc j) zero h = inr h
set_either (x ∷ m) (suc j) (suc i) h = further (set_either m j i h)

-- a mark is 1
abbrev One : List ℕ → ℕ → Type 0
One m i = Marked m i → get_or m i 0 ≡ 1

set_one : (m : List ℕ) (j i : ℕ) → One m i → One (set m j 1) i
set_one [] j i o h = o h
set_one (x ∷ m) zero zero o h = refl
set_one (x ∷ m) zero (suc i) o h = o h
set_one (x ∷ m) (suc j) zero o h = o h
set_one (x ∷ m) (suc j) (suc i) o h = set_one m j i o h

zeros_bare : (n i : ℕ) → ◌≡◌ {A = ℕ} (get_or (replicate n 0) i 0) 0
zeros_bare zero i = refl
zeros_bare (suc n) zero = refl
zeros_bare (suc n) (suc i) = zeros_bare n i

-- ---- a chain has with an index the one it goes on to

module _ (n : ℕ) (program : Program) where
  abbrev next : ℕ → ℕ
  next i = onward_from n (program i).next_instruction i

  chain_has : (i : ℕ) → i < n → Memᴰ i (chain n program i)
  chain_has i h = rw (chain_step n program i h) (mathlib.Core.List.Memᴰ.head refl)

  closed_by_lem : (most i k : ℕ) → n ≤ i + suc most → (t : Bool) → ltb i n ≡ t →
      (Memᴰ k (chain_from most n program (next i)) → Memᴰ (next k) (chain_from most n program (next i))) →
      Memᴰ k (cond t (i ∷ chain_from most n program (next i)) []) → next k < n → Memᴰ (next k) (cond t (i ∷ chain_from most n program (next i)) [])
  closed_by_lem most i k f false t r m h = absurd (mathlib.Core.List.Memᴰ.not-nil m)
  closed_by_lem most i k f true t r (mathlib.Core.List.Memᴰ.tail m) h = mathlib.Core.List.Memᴰ.tail (r m)
  closed_by_lem most i k f true t r (mathlib.Core.List.Memᴰ.head q) h =
      let a = onward_ascends n (program i).next_instruction i (ltb-true i n t) in
      let g : next i < n = rw q at h in
      let e : chain_from most n program (next i) ≡ chain n program (next i) = chain_whole n program (next i) most (omega arith) in
      let m : Memᴰ (next i) (chain_from most n program (next i)) = rw e (chain_has (next i) g) in
      rw q (mathlib.Core.List.Memᴰ.tail {x = i} {xs = chain_from most n program (next i)} m)

  closed : (most i k : ℕ) → n ≤ i + most → Memᴰ k (chain_from most n program i) → next k < n → Memᴰ (next k) (chain_from most n program i)
  unfolding chain_from
  closed zero i k f m h = absurd (mathlib.Core.List.Memᴰ.not-nil m)
  closed (suc most) i k f m h =
      closed_by_lem most i k f (ltb i n) refl (λ r. closed most (next i) k (past (ltb i n) refl m) r h) m h
    where
      past : (t : Bool) → ltb i n ≡ t → Memᴰ k (cond t (i ∷ chain_from most n program (next i)) []) → n ≤ next i + most
      past true t m' = let a = onward_ascends n (program i).next_instruction i (ltb-true i n t) in omega arith
      past false t m' = absurd (mathlib.Core.List.Memᴰ.not-nil m')

module _ (s es : List ℤ) (left : ℤ) where
  abbrev on : ℕ → ℕ
  on i = onward_from (count s) (instruction_at s i).next_instruction i

  -- ---- what is marked at first

  record Entered (k i : ℕ) : Type 0 where
    place : ℕ
    before : place < k
    is : i ≡ word_of (entry_at es place)
    inside : i < count s

  entered_by : (k i : ℕ) → ((i ≡ word_of (entry_at es k)) × (i < length (entries_marked (count s) es k))) ⊎ Marked (entries_marked (count s) es k) i →
      (Marked (entries_marked (count s) es k) i → Entered k i) → Entered (suc k) i
  entered_by k i (inl e) r = record { place = k; before = omega arith; is = e.0; inside = omega (arith, e.1, length_entries (count s) es k) }
  entered_by k i (inr h) r = let d = r h in record { place = d.place; before = omega (arith, d.before); is = d.is; inside = d.inside }

  entered_only : (k i : ℕ) → Marked (entries_marked (count s) es k) i → Entered k i
  unfolding entries_marked
  entered_only zero i h = absurd (h (zeros_bare (count s) i))
  entered_only (suc k) i h =
      entered_by k i (set_either (entries_marked (count s) es k) (word_of (entry_at es k)) i h) (entered_only k i)

  marked_by : (k j : ℕ) → (j ≡ k) ⊎ (j < k) → word_of (entry_at es j) < count s → (j < k → Marked (entries_marked (count s) es k) (word_of (entry_at es j))) →
      Marked (set (entries_marked (count s) es k) (word_of (entry_at es k)) 1) (word_of (entry_at es j))
  marked_by k j (inl e) h r = rw e (set_marks (entries_marked (count s) es k) (word_of (entry_at es k)) (rw (length_entries (count s) es k) (rw e at h)))
  marked_by k j (inr l) h r = set_keeps (entries_marked (count s) es k) (word_of (entry_at es k)) (word_of (entry_at es j)) (r l)

  entered_all : (k j : ℕ) → j < k → word_of (entry_at es j) < count s → Marked (entries_marked (count s) es k) (word_of (entry_at es j))
  unfolding entries_marked
  entered_all zero j l h = absurd (omega arith)
  entered_all (suc k) j l h = marked_by k j (eq-or-lt_of_le (le_of_suc-le-suc l)) h (λ g. entered_all k j g h)

  abbrev entries : List ℕ
  entries = entries_marked (count s) es (length es / 2)

  -- a marked index is inside and starts a chain
  Start : ℕ → Type 0
  Start i = Starts s es left i × (i < count s)

  entry_start : (i : ℕ) → Marked entries i → Start i
  unfolding Start
  entry_start i h = let d = entered_only (length es / 2) i h in (entry d.place d.before d.is, d.inside)

  left_start : (i : ℕ) → (word_of left + 1 ≡ count s → ⊥) → ((i ≡ word_of left) × (i < length entries)) ⊎ Marked entries i → Start i
  unfolding Start
  left_start i g (inl e) =
      (boundary (λ z. g (ap (λ (n : ℕ). n + 1) (sym e.0) ∙ z)) e.0, omega (arith, e.1, length_entries (count s) es (length es / 2)))
  left_start i g (inr h) = entry_start i h

  first_only : (i : ℕ) → Marked (marks_after s es left 0) i → Start i
  unfolding marks_after
  first_only i h = by (eqb (word_of left + 1) (count s)) refl h
    where
      by : (t : Bool) → eqb (word_of left + 1) (count s) ≡ t → Marked (cond t entries (set entries (word_of left) 1)) i → Start i
      by true t m = entry_start i m
      by false t m = left_start i (eqb-false (word_of left + 1) (count s) t) (set_either entries (word_of left) i m)

  first_all : (i : ℕ) → Starts s es left i → i < count s → Marked (marks_after s es left 0) i
  unfolding marks_after
  first_all i (entry k l e) h = by (eqb (word_of left + 1) (count s))
    where
      m : Marked entries i
      m = rw e (entered_all (length es / 2) k l (rw e at h))

      by : (t : Bool) → Marked (cond t entries (set entries (word_of left) 1)) i
      by true = m
      by false = set_keeps entries (word_of left) i m
  first_all i (boundary g e) h = by (eqb (word_of left + 1) (count s)) refl
    where
      by : (t : Bool) → eqb (word_of left + 1) (count s) ≡ t → Marked (cond t entries (set entries (word_of left) 1)) i
      by true t = absurd (g (ap (λ (n : ℕ). n + 1) e ∙ eqb-true (word_of left + 1) (count s) t))
      by false t = rw e (set_marks entries (word_of left) (rw (length_entries (count s) es (length es / 2)) (rw e at h)))

  -- ---- marks stay

  stays_one : (k i : ℕ) → Marked (marks_after s es left k) i → Marked (marks_after s es left (suc k)) i
  unfolding marks_after
  stays_one k i h = by (eqb (get_or (marks_after s es left k) k 0) 0)
    where
      by : (t : Bool) → Marked (cond t (marks_after s es left k) (set (marks_after s es left k) (on k) 1)) i
      by true = h
      by false = set_keeps (marks_after s es left k) (on k) i h

  stays_by : (k l i : ℕ) → (k ≡ suc l) ⊎ (k < suc l) → Marked (marks_after s es left k) i → (k ≤ l → Marked (marks_after s es left l) i) →
      Marked (marks_after s es left (suc l)) i
  stays_by k l i (inl e) h r = rw e at h
  stays_by k l i (inr g) h r = stays_one l i (r (omega arith))

  stays : (k l i : ℕ) → k ≤ l → Marked (marks_after s es left k) i → Marked (marks_after s es left l) i
  stays k zero i g h = let e : k ≡ 0 = omega arith in rw e at h
  stays k (suc l) i g h = stays_by k l i (eq-or-lt_of_le g) h (λ m. stays k l i m h)

  -- a marked index marks where it goes on
  goes_on : (k : ℕ) → Marked (marks_after s es left k) k → on k < count s → Marked (marks_after s es left (suc k)) (on k)
  unfolding marks_after
  goes_on k h g = by (eqb (get_or (marks_after s es left k) k 0) 0) refl
    where
      by : (t : Bool) → eqb (get_or (marks_after s es left k) k 0) 0 ≡ t → Marked (cond t (marks_after s es left k) (set (marks_after s es left k) (on k) 1)) (on k)
      by true t = absurd (h (eqb-true (get_or (marks_after s es left k) k 0) 0 t))
      by false t = set_marks (marks_after s es left k) (on k) (rw (length_marks s es left k) g)

  -- ---- only what is on a chain is marked

  chained : (i : ℕ) → Start i → OnChain s es left i
  unfolding Start
  chained i d = record { start = i; starts = d.0; on = chain_has (count s) (instruction_at s) i d.1 }

  chained_on : (k i : ℕ) → OnChain s es left k → i ≡ on k → i < count s → OnChain s es left i
  chained_on k i c e h =
      record { start = c.start; starts = c.starts; on = rw e (closed (count s) (instruction_at s) (count s) c.start k (omega arith) c.on (rw e at h)) }

  only_by : (k i : ℕ) → ((i ≡ on k) × (i < length (marks_after s es left k))) ⊎ Marked (marks_after s es left k) i → (Marked (marks_after s es left k) k) →
      ((j : ℕ) → Marked (marks_after s es left k) j → OnChain s es left j) → OnChain s es left i
  only_by k i (inl e) m r = chained_on k i (r k m) e.0 (rw (length_marks s es left k) at e.1)
  only_by k i (inr h) m r = r i h

  marked_only : (k i : ℕ) → Marked (marks_after s es left k) i → OnChain s es left i
  unfolding marks_after
  marked_only zero i h = chained i (first_only i h)
  marked_only (suc k) i h = by (marked_only k) (eqb (get_or (marks_after s es left k) k 0) 0) refl h
    where
      by : ((j : ℕ) → Marked (marks_after s es left k) j → OnChain s es left j) → (t : Bool) → eqb (get_or (marks_after s es left k) k 0) 0 ≡ t →
          Marked (cond t (marks_after s es left k) (set (marks_after s es left k) (on k) 1)) i → OnChain s es left i
      by r true t m = r i m
      by r false t m = only_by k i (set_either (marks_after s es left k) (on k) i m) (eqb-false (get_or (marks_after s es left k) k 0) 0 t) r

  -- ---- all that is on a chain is marked, at the latest when the pass comes to it

  InTime : ℕ → Type 0
  InTime i = i < count s → Marked (marks_after s es left i) i

  in_time : (i : ℕ) → Starts s es left i → InTime i
  unfolding InTime
  in_time i d h = stays 0 i i (omega arith) (first_all i d h)

  next_in_time : (i : ℕ) → i < count s → InTime i → InTime (on i)
  unfolding InTime
  next_in_time i h r g =
      stays (suc i) (on i) (on i) (omega (arith, onward_ascends (count s) (instruction_at s i).next_instruction i h)) (goes_on i (r h) g)

  Done : ℕ → Type 0
  Done i = (i < count s) × Marked (marks_after s es left i) i

  chain_all : (most i k : ℕ) → InTime i → Memᴰ k (chain_from most (count s) (instruction_at s) i) → Done k
  unfolding chain_from InTime Done
  chain_all zero i k r m = absurd (mathlib.Core.List.Memᴰ.not-nil m)
  chain_all (suc most) i k r m = by (chain_all most (on i) k) (ltb i (count s)) refl m
    where
      by : (InTime (on i) → Memᴰ k (chain_from most (count s) (instruction_at s) (on i)) → Done k) → (t : Bool) → ltb i (count s) ≡ t →
          Memᴰ k (cond t (i ∷ chain_from most (count s) (instruction_at s) (on i)) []) → Done k
      by g false t m' = absurd (mathlib.Core.List.Memᴰ.not-nil m')
      by g true t (mathlib.Core.List.Memᴰ.head q) = rw q (ltb-true i (count s) t, r (ltb-true i (count s) t))
      by g true t (mathlib.Core.List.Memᴰ.tail m') = g (next_in_time i (ltb-true i (count s) t) r) m'

  one : (k i : ℕ) → One (marks_after s es left k) i
  unfolding marks_after entries_marked
  one zero i = by (eqb (word_of left + 1) (count s))
    where
      listed : (k : ℕ) → One (entries_marked (count s) es k) i
      listed zero h = absurd (h (zeros_bare (count s) i))
      listed (suc k) h = set_one (entries_marked (count s) es k) (word_of (entry_at es k)) i (listed k) h

      by : (t : Bool) → One (cond t entries (set entries (word_of left) 1)) i
      by true = listed (length es / 2)
      by false = set_one entries (word_of left) i (listed (length es / 2))
  one (suc k) i = by (one k i) (eqb (get_or (marks_after s es left k) k 0) 0)
    where
      by : One (marks_after s es left k) i → (t : Bool) → One (cond t (marks_after s es left k) (set (marks_after s es left k) (on k) 1)) i
      by r true = r
      by r false = set_one (marks_after s es left k) (on k) i r

  marked_all : (i : ℕ) → OnChain s es left i → get_or (reachable s es left) i 0 ≡ 1
  unfolding Done
  marked_all i c =
      let d = chain_all (count s) c.start i (in_time c.start c.starts) c.on in
      one (count s) i (stays i (count s) i (omega (arith, d.0)) d.1)

pub reached_exactly : ReachedExactly
reached_exactly s es left i = (marked_only s es left (count s) i, marked_all s es left i)
