use Rattle.std.proofs.Common.{◌≡◌}
use Rattle.lang.specs.Entries.{entered}
use Rattle.lang.proofs.entries.entries_table.Given as goal

-- the table has the entries passed, each at its character
abbrev pub invariant-loop-i : goal.invariant-loop-i
invariant-loop-i l = l.table ≡ entered l.entries l.i
