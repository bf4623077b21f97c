-- After the end comes only the end (R114). The theorem is `end_stays` of proofs/Ending.
use Rattle.std.specs.Prelude.{◌≡◌, List, ℕ, ℤ, replicate}
use Rattle.captions.specs.declared.RunOptions.{RunOptions}
use Rattle.captions.specs.declared.State.{State}
use Rattle.captions.specs.declared.Answer.TheVariants.{End}
use Rattle.captions.specs.Steps.{step_of}
use Rattle.captions.specs.Runs.{answers}

-- whatever the table, the boundary character, the word, the options and the state s: once a step from s answers the end, it hands back s,
-- and each of the n steps after it answers the end, for every n
abbrev pub EndStays : Type 0
EndStays =
    (pairs ops : List ℤ) (boundary : ℤ) (word : List ℕ) (options : RunOptions) (s : State) →
    (step_of pairs ops boundary word options s).answer ≡ End →
    ((step_of pairs ops boundary word options s).state ≡ s)
    × ((n : ℕ) → answers pairs ops boundary word options n (step_of pairs ops boundary word options s).state ≡ replicate n End)
