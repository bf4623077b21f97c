-- What is answered where the removals have a room of their own (R483, R486): the contract of `answer_given`. In one room for both it is
-- `blamedOf` of removals/specs/Search.
use Rattle.std.specs.Prelude.{List, ℕ}
use Rattle.lang.specs.Records.{count}
use Rattle.fonts.specs.Fonts.{Font}
use Rattle.fonts.specs.Compiled.{Room}
use Rattle.captions.specs.declared.RunOptions.{RunOptions}
use Rattle.removals.specs.declared.Blamed.{Blamed}
use Rattle.removals.specs.Search.{answer_without, first_answer, blame_refusal, blamed_by}

-- by the refusal in the first room: the first answer of all removals in the second, or its number
abbrev pub blamed_in : Font → Room → Room → ℕ → List ℕ → RunOptions → ℕ → Blamed
blamed_in f room without size word options edited =
    blamed_by (blame_refusal f room size word options edited) (first_answer (answer_without f without size word options) (count f.instructions))
