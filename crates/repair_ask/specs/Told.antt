-- What is told once the passes of repair have answered: how many warnings there are, their refusal, or 15 (R244).
use Rattle.std.specs.Prelude.{cond, ℕ, ◌*◌, leb}
use Rattle.lang.specs.declared.Written.{Written}
use Rattle.lang.specs.declared.Written.TheVariants.{Count, Refused}
use Rattle.repairs.specs.declared.Validated.{Validated}
use Rattle.repairs.specs.declared.Validated.TheVariants.{Fixed}
use Rattle.repairs.specs.declared.Validated.TheVariants as validated

-- by how many places the list of warnings has, four for each
abbrev pub told : Validated → ℕ → Written
told (Fixed left n) room = cond (leb (4 * n) room) (Count n) (Refused 15)
told (validated.Refused k) room = Refused k
