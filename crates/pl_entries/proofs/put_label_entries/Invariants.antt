use mathlib.Core.Path.{◌≡◌}
use lib.ListN.{length}
use Rattle.pl_apply.specs.Standing.{overlay}
use Rattle.property_lists.specs.ListReading.{label_entries}
use Rattle.pl_entries.proofs.put_label_entries.Given as goal

-- the entries of the characters passed stand in the list
abbrev pub invariant-loop-c : goal.invariant-loop-c
invariant-loop-c l = (l.entries ≡ overlay (label_entries l.labels l.c) l.fn.entries) × (l.n ≡ length (label_entries l.labels l.c))
