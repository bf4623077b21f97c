use Rattle.std.proofs.Common.{◌≤◌}
use Rattle.repairs.specs.Damaged.{Damaged, unpacked_upto}
use Rattle.repair_entries.specs.Entering.{Lends, Placed}
use Rattle.repair_entries.proofs.put_entries.Given as goal

-- the entries passed are placed, those that unpack
abbrev pub invariant-loop-k : goal.invariant-loop-k
invariant-loop-k l =
    (l.n ≤ l.k) × ((d : Damaged) → Lends d l.instructions l.entries → Placed l.fn.unpacked 0 (unpacked_upto d l.k) l.unpacked l.n)
