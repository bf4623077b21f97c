use Rattle.std.proofs.Common.{◌≤◌, length}
use Rattle.test_requests.proofs.write.put_digits.Given as goal

-- the place is within the line
abbrev pub invariant-loop-place : goal.invariant-loop-place
invariant-loop-place l = l.at ≤ length l.line

abbrev pub decreases-loop-place : goal.decreases-loop-place
decreases-loop-place l = l.place
