use Rattle.std.proofs.Common.{◌≡◌, true}
use Rattle.lang.specs.Every.{every}
use Rattle.entry_unpack.specs.Unpacking.{entry_safe}
use Rattle.entry_unpack.proofs.all_are_safe.Given as goal

-- the entries passed are safe
abbrev pub invariant-loop-i : goal.invariant-loop-i
invariant-loop-i l = every l.i (entry_safe l.instructions l.entries) ≡ true
