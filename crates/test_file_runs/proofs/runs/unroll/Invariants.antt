use Rattle.std.proofs.Common.{◌≤◌, length}
use Rattle.test_file_runs.proofs.runs.unroll.Given as goal

-- the place stays within the list
abbrev pub invariant-loop-i : goal.invariant-loop-i
invariant-loop-i l = l.next ≤ length l.list
