-- What a host sees through the lists is what demand 3 speaks of: the statements of specs/Purpose.
-- Assumes nothing.
use mathlib.Core.Path.{◌≡◌, refl, sym, ap, ◌∙◌}
use mathlib.Core.Bool.{Bool, true, false}
use mathlib.Core.List.{List, [], ◌∷◌, map}
use mathlib.Core.Option.{some}
use Prim.Native.Nat.{ℕ, zero, suc, ◌≤◌}
use native.Mathlib.Omega.{arith}
use lib.IntN.{ℤ, pos}
use lib.ListN.{length}
use Rattle.lang.specs.Checks.{lower}
use Rattle.lang.specs.Answers.{room_refusal, list_of}
use Rattle.lang.proofs.Refusals.{room_is, lower_none, lower_first, taken_reply}
use Rattle.fonts.specs.declared.Compiled.TheVariants.{Tables}
use Rattle.fonts.specs.Fonts.{Font}
use Rattle.fonts.specs.Compiled.{room_in, sized_refusal, table_pairs, total_ops, loops_of_font, font_counts, Compiles}
use Rattle.captions.specs.declared.RunOptions.{RunOptions}
use Rattle.captions.specs.declared.State.{State}
use Rattle.captions.specs.declared.Answer.{Answer}
use Rattle.captions.specs.declared.Answer.TheVariants.{Char, Ligature, Kern, End, Refused}
use Rattle.captions.specs.declared.Step.{Step}
use Rattle.captions.specs.Replies.{bit_number, answer_reply}
use Rattle.captions.specs.Begin.{begin_refusal, fresh_state}
use Rattle.captions.specs.Steps.{ran_from, right_item, step_refusal, hand_back, stepped_by, step_of}
use Rattle.captions.specs.Runs.{answers}
use Rattle.captions.proofs.Theorems.{demand_3}
use Rattle.c_compile.specs.Counts.{counts_of, CompilesCounts}
use Rattle.c_states.specs.States.{flag_bit, state_read, moved_to}
use Rattle.c_steps.specs.Step.{step_run_from, step_in, step_number, item_numbers, StepsRun}
use Rattle.c_captions.specs.Purpose.{SameNumbers, ReadsBack, Call, seen, HostCalls, done, call, HostCallsAnswer, EveryHostFont, EveryRun}
use Rattle.c_states.proofs.ReadBack.{read_back}
use Rattle.c_captions.proofs.Begin.{run_known}
use Rattle.c_states.proofs.Writing.{with_room}

-- ---- a state in a list

bit_same : (b : Bool) → pos (flag_bit b) ≡ bit_number b
bit_same true = refl
bit_same false = refl

pub same_numbers : SameNumbers
same_numbers s = rw (bit_same s.pending_boundary)

pub reads_back : ReadsBack
reads_back = read_back

-- ---- a refused step returns its state

hand_kept : (s t : State) (a : Answer) (k : ℕ) → (answer_reply (hand_back s t a).answer).number ≡ suc k → (hand_back s t a).state ≡ s
hand_kept s t (Char c p) k e = absurd (omega arith)
hand_kept s t (Ligature c p n a b) k e = absurd (omega arith)
hand_kept s t (Kern v) k e = absurd (omega arith)
hand_kept s t End k e = absurd (omega arith)
hand_kept s t (Refused n) k e = refl

kept_by : (m : ℕ) (s : State) (t : Step) (k : ℕ) → (answer_reply (stepped_by m s t).answer).number ≡ suc k → (stepped_by m s t).state ≡ s
kept_by zero s t k e = hand_kept s t.state t.answer k e
kept_by (suc m) s t k e = refl

stays : (state : List ℕ) (s : State) (n k : ℕ) → n ≡ suc k → moved_to n state s ≡ state
stays state s n k e = rw e

-- with room for an item the number is the step's
roomy : (m n : ℕ) → 7 ≤ n → lower m (room_refusal 7 n) ≡ m
roomy m n h = sym (lower_first m (room_refusal 7 n) (room_is 7 n h))

module _ (pairs ops : List ℤ) (boundary : ℤ) (word : List ℕ) (options : RunOptions) (room : ℕ) (fits : 7 ≤ room) where
  abbrev after : State → Step
  after = step_of pairs ops boundary word options

  -- ---- one call

  module _ (state : List ℕ) (item : List ℤ) (r : ℕ) (state' : List ℕ) (item' : List ℤ) (l : length item ≡ room)
      (h : StepsRun pairs ops boundary word options state item r state' item') (s : State) (e : state_read state ≡ some s) where
    stepped : step_in pairs ops boundary word options state ≡ after s
    stepped = ap (step_run_from pairs ops boundary word options) e

    number_is : step_number pairs ops boundary word options state (length item) ≡ (answer_reply (after s).answer).number
    number_is =
        roomy (answer_reply (step_in pairs ops boundary word options state).answer).number (length item) (omega (arith, l, fits))
        ∙ ap (λ (u : Step). (answer_reply u.answer).number) stepped

    item_is : item' ≡ list_of (answer_reply (after s).answer).number (pos 0) room (item_numbers (after s).answer)
    item_is = h.told ∙ (λ j. list_of (number_is j) (pos 0) (l j) (item_numbers (stepped j).answer))

    next_by_lem : (k : ℕ) → r ≡ k → state_read state' ≡ some (after s).state
    next_by_lem zero z = h.again z ∙ ap (λ (u : Step). some u.state) stepped
    next_by_lem (suc k) z =
        let m : (answer_reply (after s).answer).number ≡ suc k = sym (h.number ∙ number_is) ∙ z in
        let t = ran_from pairs ops (right_item boundary options.right_boundary_override) word s in
        let kept : (after s).state ≡ s = kept_by (step_refusal boundary word options) s t k m in
        ap state_read (h.moved ∙ stays state _ (step_number pairs ops boundary word options state (length item)) k (sym h.number ∙ z)) ∙ e
        ∙ ap some (sym kept)

  -- ---- any number of calls

  calls_by : (n : ℕ) (state : List ℕ) (s : State) (calls : List Call) → state_read state ≡ some s →
      HostCalls pairs ops boundary word options room n state calls → calls ≡ map (seen room) (answers pairs ops boundary word options n s)
  unfolding answers
  calls_by zero state s [] e done = refl
  calls_by zero state s (c ∷ calls) e x4 = elim x4 [ ]
  calls_by (suc n) state s [] e x4 = elim x4 [ ]
  calls_by (suc n) state s (c ∷ calls) e (call {r = r} {state' = state'} {item = item} {item' = item'} l h others) =
      let i = calls_by n state' (after s).state calls (next_by_lem state item r state' item' l h s e r refl) others in
      λ j. record { number = (h.number ∙ number_is state item r state' item' l h s e) j; item = item_is state item r state' item' l h s e j } ∷ i j

pub calls_answer : HostCallsAnswer
calls_answer pairs ops boundary word options room fits n state s calls e h = calls_by pairs ops boundary word options room fits n state s calls e h

-- ---- demand 3

module _ (f : Font) (size : ℕ) (pairs ops loops : List ℤ) (work counts : List ℕ) (pairs' ops' loops' : List ℤ) (work' counts' : List ℕ)
    (h : CompilesCounts f size pairs ops loops work counts 0 pairs' ops' loops' work' counts') where
  none_refused : (sized_refusal f (room_in pairs ops loops work) size ≡ 0) × (room_refusal 3 (length counts) ≡ 0)
  none_refused = lower_none (sized_refusal f (room_in pairs ops loops work) size) (room_refusal 3 (length counts)) (sym h.number)

  compiles : Compiles f size pairs ops loops work (Tables (table_pairs f) (total_ops f) (length (loops_of_font f))) pairs' ops' loops' work'
  compiles =
      record {
        answer = taken_reply (font_counts f) none_refused.0;
        lists = rw none_refused.0 (rw (sym h.number) at h.lists);
        cleared = h.cleared;
      }

  counted : counts' ≡ list_of 0 0 (length counts) (counts_of f)
  counted = h.counted ∙ ap (λ (n : ℕ). list_of n 0 (length counts) (counts_of f)) (sym h.number)

pub demand_3_for_a_host : EveryHostFont
demand_3_for_a_host f size pairs ops loops work counts pairs' ops' loops' work' counts' h =
    rw (counted f size pairs ops loops work counts pairs' ops' loops' work' counts' h)
    (demand_3 f size pairs ops loops work (table_pairs f) (total_ops f) (length (loops_of_font f)) pairs' ops' loops' work'
    (compiles f size pairs ops loops work counts pairs' ops' loops' work' counts' h))

pub every_run : EveryRun
every_run f pairs ops word options items a state r state' l h =
    let q = run_known (begin_refusal pairs ops f.boundary word options) (fresh_state word options) a.start (sym a.begins) in
    let z : r ≡ 0 = h.number ∙ with_room 9 (length state) q.0 l in (
      z,
      λ room n fits calls cs.
          record {
            start = a.start;
            begins = a.begins;
            seen_as = calls_answer pairs ops f.boundary word options room fits n state' a.start calls (h.again z ∙ ap some (sym q.1)) cs;
            same = a.answered n;
          },
    )
