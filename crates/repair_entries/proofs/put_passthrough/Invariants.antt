use Rattle.std.proofs.Common.{◌≡◌}
use lib.Seq.{sets}
use Rattle.repair_entries.specs.Entering.{passthrough_bits}
use Rattle.repair_entries.proofs.put_passthrough.Given as goal

-- the places passed are stored
abbrev pub invariant-loop-i : goal.invariant-loop-i
invariant-loop-i l = l.through ≡ sets l.fn.through 0 (passthrough_bits l.passthrough l.i)
