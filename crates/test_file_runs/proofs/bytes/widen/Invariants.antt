use Rattle.test_file_runs.proofs.Widening.{Widened}
use Rattle.test_file_runs.proofs.bytes.widen.Given as goal

-- the bytes passed are written
abbrev pub invariant-loop-i : goal.invariant-loop-i
invariant-loop-i l = Widened l.bytes l.initial.list l.list l.i
