use Rattle.repairs.specs.Damaged.{Damaged}
use Rattle.repairs.specs.Warnings.{entry_warnings}
use Rattle.repairs.specs.Pushed.{Pushed}
use Rattle.repair_entries.specs.Entering.{Lends}
use Rattle.repair_entries.proofs.warn_entries.Given as goal

-- the warnings of the entries passed have been pushed
abbrev pub invariant-loop-k : goal.invariant-loop-k
invariant-loop-k l = (d : Damaged) → Lends d l.instructions l.entries → Pushed l.fn.warnings l.n (entry_warnings d l.k) l.warnings l.count
