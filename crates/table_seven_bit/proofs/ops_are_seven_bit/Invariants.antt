use Rattle.std.proofs.Common.{◌≡◌, true, ◌+◌}
use Rattle.lang.specs.Every.{every}
use Rattle.captions.specs.Queries.{op_is_seven_bit}
use Rattle.table_seven_bit.proofs.ops_are_seven_bit.Given as goal

-- every op passed is a kern or of seven bits
abbrev pub invariant-loop-i : goal.invariant-loop-i
invariant-loop-i l = every l.i (λ j. op_is_seven_bit l.ops (l.first + j)) ≡ true
