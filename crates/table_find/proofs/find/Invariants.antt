use Rattle.std.proofs.Common.{◌-◌}
use Rattle.captions.specs.Tables.{key_by, key_at, pair_count}
use Rattle.lang.proofs.Bisection.{Bisecting}
use Rattle.table_find.proofs.find.Given as goal

-- the search goes on between `lo` and `hi`, and ends where the definition's does
abbrev pub invariant-loop-lo : goal.invariant-loop-lo
invariant-loop-lo l = Bisecting (key_at l.pairs) (pair_count l.pairs) (key_by l.left l.right) l.lo l.hi

-- what is left between them
abbrev pub decreases-loop-lo : goal.decreases-loop-lo
decreases-loop-lo l = l.hi - l.lo
