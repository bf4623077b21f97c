-- What is answered once the number is known: the left entry, or the number (R403, R404).
use Rattle.std.specs.Prelude.{ℕ}
use Rattle.repairs.specs.declared.Validated.{Validated}
use Rattle.repairs.specs.declared.Validated.TheVariants as validated
use Rattle.repairs.specs.declared.Committed.{Committed}
use Rattle.repairs.specs.declared.Committed.TheVariants.{Fixed, Refused}
use Rattle.repair_loops.specs.WarnsLoops.{if_taken}

-- the number, or else the repaired left entry
abbrev pub committed_as : Validated → ℕ → Committed
committed_as (validated.Fixed left n) number = if_taken number (Fixed left) (Refused number)
committed_as (validated.Refused k) number = Refused k
