use Rattle.std.proofs.Common.{◌≤◌, length}
use Rattle.test_requests.proofs.write.put_numbers.Given as goal

-- the place is within the line
abbrev pub invariant-loop-i : goal.invariant-loop-i
invariant-loop-i l = l.at ≤ length l.line
