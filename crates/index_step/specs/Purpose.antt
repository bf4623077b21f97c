-- What a step by an index is for (R141): on the list that fill_index wrote for a table it is the step, for every state; and fill_index
-- writes it for every table of the form, where the list has room.
use Rattle.std.specs.Prelude.{◌≡◌, true, List, ℕ, ◌≤◌, ℤ}
use Rattle.captions.specs.declared.RunOptions.{RunOptions}
use Rattle.captions.specs.declared.State.{State}
use Rattle.captions.specs.Form.{table_form}
use Rattle.captions.specs.Steps.{step_of}
use Rattle.index.specs.Index.{index_refusal, FillsIndex}
use Rattle.index_step.specs.Indexed.{indexed_step_of}

-- by the list that fill_index wrote for the pairs, every step is the step without an index
abbrev pub IndexedSteps : Type 0
IndexedSteps =
    (pairs ops : List ℤ) (index index' : List ℕ) → FillsIndex pairs index 0 index' →
    (boundary : ℤ) (word : List ℕ) (options : RunOptions) (s : State) →
    indexed_step_of index' pairs ops boundary word options s ≡ step_of pairs ops boundary word options s

-- fill_index refuses no table of the form, where the list has its 1,285 places
abbrev pub FormIsIndexed : Type 0
FormIsIndexed = (pairs ops : List ℤ) (room : ℕ) → table_form pairs ops ≡ true → 1285 ≤ room → index_refusal pairs room ≡ 0
