-- A step by an index from the state that stands in a list: numbers that are no state, what is taken has room, and a step that is told at once.
-- Assumes nothing.
use mathlib.Core.Path.{◌≡◌, refl, sym, ap, subst, ◌∙◌}
use mathlib.Core.Bool.{Bool, true, false, cond}
use mathlib.Core.List.{List}
use mathlib.Core.Option.{Option, none, some}
use Prim.Native.Nat.{ℕ, zero, suc, ◌<◌, ◌≤◌}
use native.Mathlib.Omega.{arith}
use lib.IntN.{ℤ}
use lib.ListN.{length}
use lib.Dec.{ltb}
use borrow.Author.Tests.{lt-ltb}
use Rattle.lang.specs.Checks.{or_else}
use Rattle.captions.specs.declared.RunOptions.{RunOptions}
use Rattle.captions.specs.declared.State.{State}
use Rattle.captions.specs.declared.Step.{Step}
use Rattle.captions.specs.Replies.{answer_reply}
use Rattle.captions.specs.Tables.{pair_count}
use Rattle.captions.specs.Steps.{step_refusal, step_of, refused}
use Rattle.step_quick.specs.Quick.{plain_code, next_letter, has_letter, is_quick, quick_left, is_kern, is_ready, given_plain, given_first, quick_step, given_kern}
use Rattle.step_quick.proofs.Theorems.{left_quick, quick_is}
use Rattle.word_items.specs.ItemLists.{is_item, Small}
use Rattle.index.specs.declared.Looked.{Looked}
use Rattle.index.specs.declared.Looked.TheVariants.{Missing, At, Wrong}
use Rattle.index.specs.Index.{looked_up, looked_place}
use Rattle.index.proofs.Looking.{looked_inside}
use Rattle.index_step.specs.Indexed.{looked_step, indexed_step_of}
use Rattle.index_step.proofs.Laws.{other_is, missing_is, first_is}
use Rattle.index_plain_letters.proofs.Theorems.{index_goes_quickly}
use Rattle.index_set_word.proofs.Small.{indexed_small}
use Rattle.c_states.specs.States.{is_state, state_at, state_read, outside, or_outside}
use Rattle.c_states.proofs.ReadBack.{state_long}
use Rattle.c_steps.specs.Step.{step_run_from}
use Rattle.c_steps.proofs.Stepping.{from_is}
use Rattle.c_step_indexed.specs.Indexed.{indexed_run_from, indexed_step_in}

module _ (index : List ℕ) (pairs ops : List ℤ) (boundary : ℤ) (word : List ℕ) (options : RunOptions) where
  -- ---- numbers that are no state

  abbrev looked : State → Step
  looked s = looked_step pairs ops boundary word options s (looked_up index pairs (suc (plain_code s.next_left)) (next_letter word s))

  outside_by : (b : Bool) → is_quick ops boundary word options outside ≡ b →
      cond b (looked outside) (step_of pairs ops boundary word options outside) ≡ step_of pairs ops boundary word options outside
  outside_by true e = absurd (let q = quick_is ops boundary word options outside e in omega (arith, q.calm.code))
  outside_by false e = refl

  pub indexed_from : (o : Option State) →
      indexed_step_of index pairs ops boundary word options (or_outside o) ≡ indexed_run_from index pairs ops boundary word options o
  indexed_from none = outside_by (is_quick ops boundary word options outside) refl ∙ from_is pairs ops boundary word options none
  indexed_from (some s) = refl

  -- ---- what is taken has room for a state, and its answer is small

  later_some : (m n : ℕ) → or_else m (suc n) ≡ 0 → ⊥
  later_some zero n e = omega arith
  later_some (suc m) n e = omega arith

  taken_by : (state : List ℕ) (b : Bool) → is_state state ≡ b →
      (answer_reply (indexed_run_from index pairs ops boundary word options (cond b (some (state_at state)) none)).answer).number ≡ 0 → 9 ≤ length state
  taken_by state true e h = state_long state e
  taken_by state false e h = absurd (later_some (step_refusal boundary word options) 6 h)

  pub indexed_long : (state : List ℕ) → (answer_reply (indexed_step_in index pairs ops boundary word options state).answer).number ≡ 0 → 9 ≤ length state
  indexed_long state = taken_by state (is_state state) refl

  pub indexed_given_small : (state : List ℕ) (t : Step) → t ≡ indexed_step_in index pairs ops boundary word options state → Small t.answer
  indexed_given_small state t e =
      subst (λ (u : Step). Small u.answer) (indexed_from (state_read state) ∙ sym e)
      (indexed_small index pairs ops boundary word options (or_outside (state_read state)))

  -- ---- a quick step that is told at once

  module _ (state : List ℕ) {from : State} (read : from ≡ or_outside (state_read state)) where
    in_list : {t : Step} → t ≡ indexed_step_of index pairs ops boundary word options from → t ≡ indexed_step_in index pairs ops boundary word options state
    in_list e = e ∙ ap (indexed_step_of index pairs ops boundary word options) read ∙ indexed_from (state_read state)

    module _ {l y k : ℕ} (left : l ≡ quick_left ops boundary word options from) (some : l ≡ 0 → ⊥) (letter : y ≡ next_letter word from)
        (place : k ≡ looked_place (pair_count pairs) (looked_up index pairs l y)) (right : k ≤ pair_count pairs) {b : Bool} (is : b ≡ is_ready pairs ops k)
        (ready : b ≡ true) {t : Step} (given : t ≡ quick_step pairs ops word k from) where
      by_look : (o : Looked) → o ≡ looked_up index pairs l y → k ≡ looked_place (pair_count pairs) o →
          t ≡ indexed_step_of index pairs ops boundary word options from
      by_look Missing os e =
          missing_is index pairs ops boundary word options from left some letter os refl (given ∙ ap (λ (j : ℕ). quick_step pairs ops word j from) e)
      by_look (At j) os e =
          first_is index pairs ops boundary word options from left some letter os j refl (is ∙ ap (is_ready pairs ops) e) ready
          (given ∙ ap (λ (i : ℕ). quick_step pairs ops word i from) e)
      by_look Wrong os e = absurd (omega (arith, e, right))

      pub quick_told : t ≡ indexed_step_in index pairs ops boundary word options state
      quick_told = in_list (by_look (looked_up index pairs l y) refl place)

      has_letter_lem : has_letter word from ≡ true
      has_letter_lem =
          let q = quick_is ops boundary word options from (left_quick ops boundary word options from l left some).0 in
          rw (lt-ltb from.read (length word) q.there, lt-ltb from.given from.read q.waits)

      item_by : (c : Bool) → is_item (cond c (given_first pairs ops k from) (given_plain word from)).answer ≡ true
      item_by true = refl
      item_by false = refl

      pub quick_item : is_item t.answer ≡ true
      quick_item =
          ap (λ (u : Step). is_item u.answer)
          (given ∙ ap (λ (c : Bool). cond c (cond (ltb k (pair_count pairs)) (given_first pairs ops k from) (given_plain word from)) (refused 7 from)) has_letter_lem)
          ∙ item_by (ltb k (pair_count pairs))

    -- ---- a last kern that is told at once

    module _ {b : Bool} (is : b ≡ is_kern ops boundary word options from) (yes : b ≡ true) {t : Step} (given : t ≡ given_kern ops from) where
      pub kern_told : t ≡ indexed_step_in index pairs ops boundary word options state
      kern_told = in_list (given ∙ sym ((index_goes_quickly index pairs ops boundary word options).kern from (sym is ∙ yes)))
