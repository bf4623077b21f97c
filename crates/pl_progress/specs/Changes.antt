-- What a function that applies a property answers.
use Rattle.std.proofs.Math.Option.{Option, none, some}
use Rattle.property_lists.specs.declared.Progress.{Progress}
use Rattle.std.specs.Prelude.{Option as Answer, Some, None}

-- what a function answers: where reading stands after it
abbrev pub changed_to : Answer Progress → Option Progress
changed_to (Some s) = some s
changed_to None = none
