use Rattle.std.proofs.Common.{◌≡◌, true}
use Rattle.lang.specs.Every.{every}
use Rattle.captions.specs.Queries.{pair_is_safe}
use Rattle.table_seven_bit.proofs.all_are_safe.Given as goal

-- every pair passed is safe
abbrev pub invariant-loop-k : goal.invariant-loop-k
invariant-loop-k l = every l.k (pair_is_safe l.pairs l.ops) ≡ true
