use Rattle.std.proofs.Common.{◌≤◌}
use Rattle.test_requests.proofs.write.top_place.Given as goal

-- the place only falls
abbrev pub invariant-loop-place : goal.invariant-loop-place
invariant-loop-place l = l.place ≤ 1000000000

abbrev pub decreases-loop-place : goal.decreases-loop-place
decreases-loop-place l = l.place
