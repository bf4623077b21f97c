use Rattle.compile_collect.proofs.Lefts.{Lefts}
use Rattle.compile_collect.proofs.collect_rows.Given as goal

-- the rows are those of the lefts passed, the boundary's first
abbrev pub invariant-loop-left : goal.invariant-loop-left
invariant-loop-left l = Lefts l.instructions l.table l.cap l.e l.fn.work l.work l.left l.n
