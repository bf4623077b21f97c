-- Two runs beside each other, by a step on each: they differ, both end, or go on.
-- Assumes nothing.
use mathlib.Core.Path.{◌≡◌, sym, subst, ◌∙◌}
use mathlib.Core.Bool.{true, false}
use mathlib.Core.List.{List}
use Prim.Native.Nat.{ℕ, ◌<◌}
use lib.IntN.{ℤ}
use lib.ListN.{length}
use Rattle.lang.specs.Answers.{Reply}
use Rattle.captions.specs.declared.RunOptions.{RunOptions}
use Rattle.captions.specs.declared.State.{State}
use Rattle.captions.specs.declared.Step.{Step}
use Rattle.captions.specs.Tables.{op_count}
use Rattle.captions.specs.Steps.{step_of, Stepped}
use Rattle.captions.proofs.Replies.{stepped_is}
use Rattle.word_items.specs.ItemLists.{is_item, Small}
use Rattle.word_set.specs.Setting.{and_then}
use Rattle.word_set.proofs.Bounds.{step_small}
use Rattle.removals.specs.Items.{most_items, run_items, same_items}
use Rattle.removals.proofs.Lessening.{step_lessens, run_step}
use Rattle.same_answer.specs.Answers.{same_answer}
use Rattle.same_items.proofs.Comparing.{differs, both_end, goes_on}

-- one run: what the step a from s answered
module _ (pairs ops : List ℤ) (boundary : ℤ) (word : List ℕ) (options : RunOptions) (s : State) (a : Step)
    (h : Stepped pairs ops boundary word options s a) where
  run_as : run_items pairs ops boundary word options s ≡ and_then a.answer (run_items pairs ops boundary word options a.state)
  run_as =
      subst (λ (x : Step). run_items pairs ops boundary word options s ≡ and_then x.answer (run_items pairs ops boundary word options x.state))
      (sym (stepped_is pairs ops boundary word options s h)) (run_step pairs ops boundary word options s)

  answer_small : Small a.answer
  answer_small =
      subst (λ (x : Step). Small x.answer) (sym (stepped_is pairs ops boundary word options s h)) (step_small pairs ops boundary word options s)

  pub fewer_items : is_item a.answer ≡ true → most_items (op_count ops) (length word) a.state < most_items (op_count ops) (length word) s
  fewer_items =
      subst (λ (x : Step). is_item x.answer ≡ true → most_items (op_count ops) (length word) x.state < most_items (op_count ops) (length word) s)
      (sym (stepped_is pairs ops boundary word options s h)) (step_lessens pairs ops boundary word options s)

-- two
module _ (pairs ops pairs' ops' : List ℤ) (boundary : ℤ) (word : List ℕ) (options : RunOptions) (s t : State) (a b : Step)
    (h : Stepped pairs ops boundary word options s a) (k : Stepped pairs' ops' boundary word options t b) where
  abbrev left : Reply
  left = run_items pairs ops boundary word options a.state

  abbrev right : Reply
  right = run_items pairs' ops' boundary word options b.state

  both_as : same_items (run_items pairs ops boundary word options s) (run_items pairs' ops' boundary word options t)
      ≡ same_items (and_then a.answer left) (and_then b.answer right)
  both_as i = same_items (run_as pairs ops boundary word options s a h i) (run_as pairs' ops' boundary word options t b k i)

  pub runs_differ : same_answer a.answer b.answer ≡ false →
      same_items (run_items pairs ops boundary word options s) (run_items pairs' ops' boundary word options t) ≡ false
  runs_differ e =
      both_as ∙ differs left right a.answer b.answer (answer_small pairs ops boundary word options s a h)
      (answer_small pairs' ops' boundary word options t b k) e

  pub runs_end : same_answer a.answer b.answer ≡ true → is_item a.answer ≡ false →
      same_items (run_items pairs ops boundary word options s) (run_items pairs' ops' boundary word options t) ≡ true
  runs_end e i = both_as ∙ both_end left right a.answer b.answer e i

  pub runs_go_on : same_answer a.answer b.answer ≡ true → is_item a.answer ≡ true →
      same_items (run_items pairs ops boundary word options s) (run_items pairs' ops' boundary word options t) ≡ same_items left right
  runs_go_on e i = both_as ∙ goes_on left right a.answer b.answer e i
