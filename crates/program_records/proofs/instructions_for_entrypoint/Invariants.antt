-- The indices that were passed are written at the front of the list, as long as there is room for them. The measure is what is left of the records.
use Rattle.std.proofs.Common.{◌≡◌, ◌-◌, length}
use Rattle.program_records.specs.RecordChains.{record_at}
use Rattle.program_records.proofs.RecordTurns.{Walked}
use Rattle.program_records.proofs.instructions_for_entrypoint.Given as goal

abbrev pub invariant-loop-walk : goal.invariant-loop-walk
invariant-loop-walk l =
    (l.n ≡ length l.instructions) × Walked l.n (record_at l.instructions) l.entry l.initial.out l.out l.walk

abbrev pub decreases-loop-walk : goal.decreases-loop-walk
decreases-loop-walk l = l.n - l.walk.at
