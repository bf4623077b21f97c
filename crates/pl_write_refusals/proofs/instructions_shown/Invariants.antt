use mathlib.Core.Path.{◌≡◌}
use mathlib.Core.Bool.{true}
use Rattle.lang.specs.Every.{every}
use Rattle.property_lists.specs.Displays.{instruction_shown}
use Rattle.pl_write_refusals.proofs.instructions_shown.Given as goal

-- every instruction passed is written
abbrev pub invariant-loop-i : goal.invariant-loop-i
invariant-loop-i l = every l.i (instruction_shown l.instructions l.kerns) ≡ true
