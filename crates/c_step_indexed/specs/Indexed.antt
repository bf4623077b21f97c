-- One step of a run by an index (R416) whose state stands in a list (R218, R224). The contract of `ligkern_step_indexed` is `StepsBy` of
-- c_steps/specs/Step, of the step that is given here.
use Rattle.std.specs.Prelude.{List, ℕ, ℤ}
use Rattle.std.proofs.Math.Option.{Option, none, some}
use Rattle.lang.specs.Checks.{or_else}
use Rattle.captions.specs.declared.RunOptions.{RunOptions}
use Rattle.captions.specs.declared.State.{State}
use Rattle.captions.specs.declared.Step.{Step}
use Rattle.captions.specs.Steps.{refused, step_refusal}
use Rattle.index_step.specs.Indexed.{indexed_step_of}
use Rattle.c_states.specs.States.{state_read, outside}

-- a step by the index from the state that was read; numbers that are no state are 7 (R222), after 4 and 6 of the call's own arguments
abbrev pub indexed_run_from : List ℕ → List ℤ → List ℤ → ℤ → List ℕ → RunOptions → Option State → Step
indexed_run_from index pairs ops boundary word options none = refused (or_else (step_refusal boundary word options) 7) outside
indexed_run_from index pairs ops boundary word options (some s) = indexed_step_of index pairs ops boundary word options s

-- .. from the state that stands in a list
abbrev pub indexed_step_in : List ℕ → List ℤ → List ℤ → ℤ → List ℕ → RunOptions → List ℕ → Step
indexed_step_in index pairs ops boundary word options state = indexed_run_from index pairs ops boundary word options (state_read state)
