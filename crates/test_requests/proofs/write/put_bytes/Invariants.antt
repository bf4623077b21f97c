use Rattle.std.proofs.Common.{◌≤◌, length}
use Rattle.test_requests.proofs.write.put_bytes.Given as goal

-- the place is within the line
abbrev pub invariant-loop-b : goal.invariant-loop-b
invariant-loop-b l = l.at ≤ length l.line
