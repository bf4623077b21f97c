use Rattle.std.proofs.Common.{◌≡◌, true}
use Rattle.lang.specs.Every.{every}
use Rattle.files.specs.Writing.{is_writable}
use Rattle.file_checks.proofs.are_writable.Given as goal

-- every instruction passed can be written
abbrev pub invariant-loop-i : goal.invariant-loop-i
invariant-loop-i l = every l.i (is_writable l.instructions l.kerns) ≡ true
