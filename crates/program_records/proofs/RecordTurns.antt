-- Laws of the turns of the two loops: a search for the rule of a right character, and a walk into a list.
-- Assumes nothing.
use mathlib.Core.Path.{◌≡◌, refl, sym, ap, ◌∙◌}
use mathlib.Core.Bool.{Bool, true, false, cond, not}
use mathlib.Core.List.{List, [], ◌∷◌, ◌++◌, append_assoc, append-nil}
use Prim.Native.Nat.{ℕ, zero, suc, ◌+◌, ◌-◌, ◌<◌, ◌≤◌, ◌^◌}
use native.Mathlib.Omega.{arith}
use lib.IntN.{ℤ}
use lib.Dec.{ltb, eqb, leb}
use lib.ListN.{length, set, take, drop, length-append, length-set}
use lib.Seq.{take_at}
use mir.Syntax.{w32}
use mir.Val.{of_z, to_z, SFits}
use mir.ValLaws.{to_z-of_z}
use borrow.Author.Tests.{ltb-true, ltb-false, lt-ltb, eqb-true, eqb-false, eq-eqb, ne_eqb, leb-true}
use Rattle.words.specs.Words.{word_of}
use Rattle.words.specs.Lists.{Appending}
use Rattle.words.proofs.Lists.{appending_none, appending_one}
use Rattle.lang.specs.declared.instruction.Instruction.{Instruction}
use Rattle.lang.specs.declared.Written.{Written}
use Rattle.lang.specs.Checks.{range_refusal, or_else}
use Rattle.lang.specs.Answers.{room_refusal, list_of}
use Rattle.lang.proofs.Refusals.{or_else_assoc, or_else_none, unless_none, room_fits}
use Rattle.std.specs.Prelude.{Option, Some}
use Rattle.program_chain.specs.Chains.{Program, step_at, chain, is_rule_for, first_for, rule_index, found}
use Rattle.program_chain.proofs.Walks.{Stepped, step_on, chain_end, length_chain, rule_here, rule_later, rule_nowhere}
use Rattle.program_records.specs.declared.steps.ChainWalk.{ChainWalk}
use Rattle.program_records.specs.RecordChains.{record_at, records_refusal, WalksRecords}
use Rattle.program_records.specs.WalkSteps.{searches_on, onward_of, rule_where, early_refusal, refusal_by, start_of, step_index, moved_by, put_by, FinishesWalk}

-- inside, a step goes on from its index
pub goes_to : (n : ℕ) (program : Program) (at : ℕ) → at < n → Stepped n program at at (onward_of (step_at n program at))
goes_to n program at h = step_on n program at at _ (rw (lt-ltb at n h))

-- ---- a search for a rule

module _ (n : ℕ) (program : Program) (right entry at : ℕ) where
  -- a search that goes on is inside, at a record that can't be the rule
  on_by : (t u : Bool) → ltb at n ≡ t → is_rule_for right (program at) ≡ u → cond t (not u) false ≡ true →
      (at < n) × (is_rule_for right (program at) ≡ false)
  on_by true false e f h = (ltb-true at n e, f)
  on_by true true e f h = absurd (let z : ◌≡◌ {A = ℕ} 0 1 = cc in omega arith)
  on_by false u e f h = absurd (let z : ◌≡◌ {A = ℕ} 0 1 = cc in omega arith)

  pub search_on : searches_on n (program at) at right ≡ true → (at < n) × (is_rule_for right (program at) ≡ false)
  search_on h = on_by (ltb at n) (is_rule_for right (program at)) refl refl h

  -- it goes on to where the rule is the entry's still
  pub search_later : searches_on n (program at) at right ≡ true → first_for program right (chain n program at) ≡ rule_index n program entry right →
      first_for program right (chain n program (onward_of (step_at n program at))) ≡ rule_index n program entry right
  search_later h inv =
      let s = search_on h in
      rule_later n program right entry at at _ (goes_to n program at s.0) inv s.1

  -- one that stops has found the rule
  stops_by : (t u : Bool) → ltb at n ≡ t → is_rule_for right (program at) ≡ u → cond t (not u) false ≡ false →
      first_for program right (chain n program at) ≡ rule_index n program entry right → rule_where n at ≡ found (rule_index n program entry right)
  stops_by true true e f h inv =
      let l = ltb-true at n e in
      rw e (rule_here n program right entry at at _ (goes_to n program at l) inv f)
  stops_by true false e f h inv = absurd (let z : ◌≡◌ {A = ℕ} 0 1 = cc in omega arith)
  stops_by false u e f h inv = rw e (rule_nowhere n program right entry at (chain_end n program at (ltb-false at n e)) inv)

  pub search_stops : searches_on n (program at) at right ≡ false → first_for program right (chain n program at) ≡ rule_index n program entry right →
      rule_where n at ≡ found (rule_index n program entry right)
  search_stops h inv = stops_by (ltb at n) (is_rule_for right (program at)) refl refl h inv

-- ---- a walk into a list

-- a walk that has come to an index: the indices before it are written at the front of the list, as long as there is room for them
pub record Walked (n : ℕ) (program : Program) (entry : ℤ) (out₀ out : List ℕ) (walk : ChainWalk) : Type 0 where
  pub done : List ℕ
  pub reached : walk.count ≡ length done
  pub split : done ++ chain n program walk.at ≡ chain n program (start_of n entry)
  pub kept : length out ≡ length out₀
  pub written : length done ≤ length out₀ → Appending done out₀ out

pub walked_none : (n : ℕ) (program : Program) (entry : ℤ) (out : List ℕ) → Walked n program entry out out (record { at = start_of n entry; count = 0 })
walked_none n program entry out =
    record { done = []; reached = refl; split = refl; kept = refl; written = λ _. appending_none out }

-- the refusals that are asked before the walk, of an entry that was passed on as its 32 bits
pub early_passed : (n : ℕ) (entry : ℤ) (r : ℕ) → SFits w32 entry → r ≡ early_refusal n (to_z w32 (of_z w32 entry)) → r ≡ early_refusal n entry
early_passed n entry r f e = e ∙ ap (early_refusal n) (to_z-of_z w32 entry f)

-- where something is refused the walk begins past the last record
pub start_refused : (n : ℕ) (entry : ℤ) → (early_refusal n entry ≡ 0 → ⊥) → start_of n entry ≡ n
start_refused n entry h = rw (ne_eqb (early_refusal n entry) 0 h)

pub start_taken : (n : ℕ) (entry : ℤ) → early_refusal n entry ≡ 0 → start_of n entry ≡ word_of entry
start_taken n entry h = rw (eq-eqb (early_refusal n entry) 0 h)

module _ (n : ℕ) (program : Program) (entry : ℤ) (out₀ out : List ℕ) (walk : ChainWalk) (h : Walked n program entry out₀ out walk) where
  module _ (inside : walk.at < n) where
    abbrev on : ℕ
    on = onward_of (step_at n program walk.at)

    step : Stepped n program walk.at walk.at on
    step = goes_to n program walk.at inside

    -- the chain is longer than what is done
    longer : length h.done < length (chain n program (start_of n entry))
    longer = omega (arith, ap length step.rest, simp length-append at (ap length h.split))

    -- so nothing was refused
    taken_by : (t : Bool) → eqb (early_refusal n entry) 0 ≡ t → early_refusal n entry ≡ 0
    taken_by true e = eqb-true (early_refusal n entry) 0 e
    taken_by false e =
        let s = start_refused n entry (eqb-false (early_refusal n entry) 0 e) in
        absurd (omega (arith, longer, ap length (chain_end n program (start_of n entry) (omega (arith, s)))))

    walked-few : n ≤ 32767
    walked-few =
        let e = or_else_none (records_refusal n) (range_refusal 65535 entry) (taken_by (eqb (early_refusal n entry) 0) refl) in
        leb-true n 32767 (unless_none 0 (leb n 32767) e.0)

    walked-count : walk.count < n
    walked-count = omega (arith, h.reached, longer, length_chain n n program (start_of n entry))

    -- one more index
    passed : Walked n program entry out₀ (set out walk.count walk.at) (record { at = on; count = walk.count + 1 })
    passed =
        record {
          done = h.done ++ (walk.at ∷ []);
          reached = simp length-append (ap (λ (k : ℕ). k + 1) h.reached);
          split = append_assoc h.done (walk.at ∷ []) (chain n program on) ∙ rw (← step.rest) h.split;
          kept = simp length-set h.kept;
          written = λ l.
              let k : length h.done < length out₀ = omega (arith, simp length-append at l) in
              rw h.reached (appending_one out₀ walk.at (h.written (omega arith)) (omega (arith, h.kept)));
        }

    goes_by : (next : Option (ℕ × ℕ)) → next ≡ Some (walk.at, on) → Walked n program entry out₀ (put_by walk next out) (moved_by walk next)
    goes_by next e = rw e passed

    walked_on : step_at n program walk.at ≡ Some (walk.at, on)
    walked_on = rw (lt-ltb walk.at n inside)

    -- the numbers that are stored fit 32 bits
    pub walked_small : (step_index (step_at n program walk.at) < 2 ^ 32) × (walk.count < 2 ^ 32)
    walked_small = (omega (arith, inside, walked-few, ap step_index walked_on), omega (arith, walked-few, walked-count))

    pub walked_nearer : n - (moved_by walk (step_at n program walk.at)).at < n - walk.at
    walked_nearer = omega (arith, inside, step.ahead, ap (λ (z : Option (ℕ × ℕ)). (moved_by walk z).at) walked_on)

    pub walked_more : Walked n program entry out₀ (put_by walk (step_at n program walk.at) out) (moved_by walk (step_at n program walk.at))
    walked_more = goes_by (step_at n program walk.at) walked_on

-- the end of a walk
module _ (xs : List Instruction) (entry : ℤ) (out₀ out : List ℕ) (walk : ChainWalk) (h : Walked (length xs) (record_at xs) entry out₀ out walk)
    (past : length xs ≤ walk.at) where
  abbrev n : ℕ
  n = length xs

  abbrev Chain : ℕ → List ℕ
  Chain i = chain n (record_at xs) i

  whole : h.done ≡ Chain (start_of n entry)
  whole = sym (append-nil h.done) ∙ rw (← chain_end n (record_at xs) walk.at past) h.split

  -- the refusal, in the order in which the definition asks
  refusal_whole : (k room : ℕ) → or_else (records_refusal n) (or_else (range_refusal 65535 entry) (room_refusal k room)) ≡ refusal_by n entry k room
  refusal_whole k room = or_else_assoc (records_refusal n) (range_refusal 65535 entry) (room_refusal k room)

  module _ (r : Written) (out' : List ℕ) (f : FinishesWalk n entry walk.count out r out') where
    -- something is refused before the walk
    refused : (m : ℕ) → early_refusal n entry ≡ suc m → WalksRecords xs entry out₀ r out'
    refused m e =
        record {
          answer = rw (refusal_whole (length (Chain (word_of entry))) (length out₀), e) (rw e at f.answer);
          list = rw (refusal_whole (length (Chain (word_of entry))) (length out₀), e) (rw (e, h.kept) at f.list);
        }

    -- nothing is: the walk is the chain from the entry
    module _ (e : early_refusal n entry ≡ 0) where
      done-is : h.done ≡ Chain (word_of entry)
      done-is = whole ∙ ap Chain (start_taken n entry e)

      count_is : walk.count ≡ length (Chain (word_of entry))
      count_is = h.reached ∙ ap length done-is

      list-by : (m : ℕ) → room_refusal (length (Chain (word_of entry))) (length out₀) ≡ m →
          out' ≡ list_of m 0 (length out₀) (take (length (Chain (word_of entry))) out) → out' ≡ list_of m 0 (length out₀) (Chain (word_of entry))
      list-by zero z g =
          let a = h.written (omega (arith, ap length done-is, room_fits (length (Chain (word_of entry))) (length out₀) z)) in
          let front : take (length (Chain (word_of entry))) out
          ≡ Chain (word_of entry) = rw (a.appended, done-is)
          (take_at (Chain (word_of entry)) (drop (length (Chain (word_of entry))) out₀) (length (Chain (word_of entry))) refl) in
          rw front at g
      list-by (suc m) z g = g

      taken : WalksRecords xs entry out₀ r out'
      taken =
          record {
            answer = rw (refusal_whole (length (Chain (word_of entry))) (length out₀), e) (rw (e, h.kept, count_is) at f.answer);
            list =
                rw (refusal_whole (length (Chain (word_of entry))) (length out₀), e)
                (list-by (room_refusal (length (Chain (word_of entry))) (length out₀)) refl (rw (e, h.kept, count_is) at f.list));
          }

    ends_by : (m : ℕ) → early_refusal n entry ≡ m → WalksRecords xs entry out₀ r out'
    ends_by zero e = taken e
    ends_by (suc m) e = refused m e

    pub walked_ends : WalksRecords xs entry out₀ r out'
    walked_ends = ends_by (early_refusal n entry) refl
