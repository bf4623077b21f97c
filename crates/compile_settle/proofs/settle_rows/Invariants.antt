use Rattle.compiling.proofs.SettleLaws.{Passed}
use Rattle.compile_settle.proofs.settle_rows.Given as goal

-- no row is open, and none of the first k is new
abbrev pub invariant-loop-k : goal.invariant-loop-k
invariant-loop-k l = Passed l.n l.fn.work l.work l.m l.k
