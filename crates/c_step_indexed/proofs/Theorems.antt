-- Proves what specs/Purpose states: steps that agree for every state agree from a list. Assumes nothing.
use mathlib.Core.Path.{◌≡◌, refl, subst}
use mathlib.Core.List.{List}
use mathlib.Core.Option.{Option, none, some}
use Prim.Native.Nat.{ℕ}
use lib.IntN.{ℤ}
use Rattle.captions.specs.declared.RunOptions.{RunOptions}
use Rattle.captions.specs.declared.State.{State}
use Rattle.captions.specs.declared.Step.{Step}
use Rattle.index.specs.Index.{FillsIndex}
use Rattle.index_step.proofs.Theorems.{indexed_steps}
use Rattle.c_states.specs.States.{state_read}
use Rattle.c_steps.specs.Step.{step_run_from, StepsBy}
use Rattle.c_step_indexed.specs.Indexed.{indexed_run_from}
use Rattle.c_step_indexed.specs.Purpose.{StepsAsWell}

run_from : (pairs ops : List ℤ) (index index' : List ℕ) → FillsIndex pairs index 0 index' → (boundary : ℤ) (word : List ℕ) (options : RunOptions)
    (o : Option State) → indexed_run_from index' pairs ops boundary word options o ≡ step_run_from pairs ops boundary word options o
run_from pairs ops index index' w boundary word options none = refl
run_from pairs ops index index' w boundary word options (some s) = indexed_steps pairs ops index index' w boundary word options s

pub steps_as_well : StepsAsWell
steps_as_well pairs ops index index' w boundary word options state item r state' item' =
    subst (λ (t : Step). StepsBy t state item r state' item') (run_from pairs ops index index' w boundary word options (state_read state))
