use Rattle.std.proofs.Common.{◌≡◌, true}
use Rattle.lang.specs.Every.{every}
use Rattle.files.specs.Writing.{is_entry_writable}
use Rattle.file_checks.proofs.are_entries_writable.Given as goal

-- every entry passed can be written
abbrev pub invariant-loop-i : goal.invariant-loop-i
invariant-loop-i l = every l.i (is_entry_writable l.old l.entries l.n) ≡ true
