use Rattle.std.proofs.Common.{◌≡◌, true}
use Rattle.lang.specs.Every.{every}
use Rattle.lang.specs.Checks.{entry_fits}
use Rattle.lang.proofs.Checks.{Marks}
use Rattle.program_limits.proofs.entries_refusal.Given as goal

-- every entry passed fits, and a character's mark is 0 exactly when no entry passed has it
abbrev pub invariant-loop-i : goal.invariant-loop-i
invariant-loop-i l = record { fit : every l.i (entry_fits l.limit l.entries) ≡ true; marked : Marks l.entries l.seen l.i }
