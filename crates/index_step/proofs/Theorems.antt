-- Proves what specs/Purpose states: on the index that fill_index wrote, a step by the index is the step.
-- Assumes nothing.
use mathlib.Core.Path.{◌≡◌, refl, sym, ap, ◌∙◌}
use mathlib.Core.Bool.{Bool, true, false, cond}
use mathlib.Core.List.{List}
use mathlib.Core.Option.{Option, none, some}
use Prim.Native.Nat.{ℕ, suc, ◌%◌}
use native.Mathlib.Omega.{arith}
use lib.IntN.{ℤ}
use lib.Dec.{eqb}
use lib.ListN.{length}
use borrow.Author.Tests.{leb-true, le-leb}
use Rattle.lang.proofs.Every.{both_left}
use Rattle.captions.specs.declared.RunOptions.{RunOptions}
use Rattle.captions.specs.declared.State.{State}
use Rattle.captions.specs.Tables.{key_by, find}
use Rattle.captions.specs.Form.{sizes_form}
use Rattle.captions.specs.Steps.{step_of}
use Rattle.captions.proofs.Following.{keys_formed}
use Rattle.step_quick.specs.Quick.{plain_code, next_letter, is_quick, is_entered, given_first}
use Rattle.step_quick.proofs.Theorems.{quick_is, quick_passes, quick_enters}
use Rattle.index.specs.Index.{FillsIndex, looked_up, looked_at}
use Rattle.index.proofs.Theorems.{filled_looks_up}
use Rattle.index_step.specs.Indexed.{looked_step}
use Rattle.index_step.specs.Purpose.{IndexedSteps, FormIsIndexed}

module _ (pairs ops : List ℤ) (boundary : ℤ) (word : List ℕ) (options : RunOptions) (s : State) where
  abbrev left : ℕ
  left = suc (plain_code s.next_left)

  abbrev right : ℕ
  right = next_letter word s

  entered_by : (k : ℕ) (t : Bool) → is_entered pairs ops k ≡ t → is_quick ops boundary word options s ≡ true → find pairs (key_by left right) ≡ some k →
      cond t (given_first pairs ops k s) (step_of pairs ops boundary word options s) ≡ step_of pairs ops boundary word options s
  entered_by k true e q f = sym (quick_enters pairs ops boundary word options s k q f e)
  entered_by k false e q f = refl

  found_step : (o : Option ℕ) → find pairs (key_by left right) ≡ o → is_quick ops boundary word options s ≡ true →
      looked_step pairs ops boundary word options s (looked_at o) ≡ step_of pairs ops boundary word options s
  found_step none f q = sym (quick_passes pairs ops boundary word options s q f)
  found_step (some k) f q = entered_by k (is_entered pairs ops k) refl q f

  module _ (index index' : List ℕ) (w : FillsIndex pairs index 0 index') where
    step_by : (t : Bool) → is_quick ops boundary word options s ≡ t →
        cond t (looked_step pairs ops boundary word options s (looked_up index' pairs left right)) (step_of pairs ops boundary word options s)
        ≡ step_of pairs ops boundary word options s
    step_by true q =
        let i = quick_is ops boundary word options s q in
        ap (looked_step pairs ops boundary word options s)
        (filled_looks_up pairs index index' left right w (omega (arith, i.calm.code)) (leb-true right 255 i.letter))
        ∙ found_step (find pairs (key_by left right)) refl q
    step_by false q = refl

pub indexed_steps : IndexedSteps
indexed_steps pairs ops index index' w boundary word options s =
    step_by pairs ops boundary word options s index index' w (is_quick ops boundary word options s) refl

-- ---- a table of the form has keys of the form

pub form_is_indexed : FormIsIndexed
form_is_indexed pairs ops room t h =
    let a = both_left (sizes_form pairs ops) _ t in
    rw (both_left (eqb (length pairs % 6) 0) _ a, keys_formed pairs ops t, le-leb 1285 room h)
