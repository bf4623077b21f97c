use Rattle.std.proofs.Common.{◌-◌, ◌<◌, ◌≤◌, length}
use Rattle.test_requests.proofs.read.numbers_of.Given as goal

-- each number takes a byte or more
abbrev pub invariant-loop-i : goal.invariant-loop-i
invariant-loop-i l = (l.count < l.i) × (l.count ≤ length l.text)

abbrev pub decreases-loop-i : goal.decreases-loop-i
decreases-loop-i l = length l.text - l.i
