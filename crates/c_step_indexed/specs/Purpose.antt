-- What a step by an index is for, to a host in C (R416): on the list that fill_index wrote for the pairs, a call of ligkern_step_indexed
-- does what a call of ligkern_step does. So what is proved of any number of those (c_captions/specs/Purpose) is proved of these. Proved in
-- proofs/Theorems.
use Rattle.std.specs.Prelude.{List, ℕ, ℤ}
use Rattle.captions.specs.declared.RunOptions.{RunOptions}
use Rattle.index.specs.Index.{FillsIndex}
use Rattle.c_steps.specs.Step.{StepsBy, StepsRun}
use Rattle.c_step_indexed.specs.Indexed.{indexed_step_in}

abbrev pub StepsAsWell : Type 0
StepsAsWell =
    (pairs ops : List ℤ) (index index' : List ℕ) → FillsIndex pairs index 0 index' →
    (boundary : ℤ) (word : List ℕ) (options : RunOptions) (state : List ℕ) (item : List ℤ) (r : ℕ) (state' : List ℕ) (item' : List ℤ) →
    StepsBy (indexed_step_in index' pairs ops boundary word options state) state item r state' item' →
    StepsRun pairs ops boundary word options state item r state' item'
