use Rattle.std.proofs.Common.{◌≤◌}
use Rattle.test_file_runs.proofs.runs.not_zero.Given as goal

-- no more are counted than were passed
abbrev pub invariant-loop-i : goal.invariant-loop-i
invariant-loop-i l = l.count ≤ l.i
