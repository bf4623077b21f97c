use Rattle.std.proofs.Common.{◌≤◌}
use Rattle.index.specs.Index.{pairs_before}
use Rattle.index_fill.proofs.count_on.Given as goal

-- no more pairs are passed than come before those of the left
abbrev pub invariant-loop-k : goal.invariant-loop-k
invariant-loop-k l = l.k ≤ pairs_before l.pairs l.left
