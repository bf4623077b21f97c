use Rattle.std.proofs.Common.{◌≤◌, length}
use Rattle.test_requests.proofs.sets.put_marked.Given as goal

-- the place goes on, and stays within the list
abbrev pub invariant-loop-i : goal.invariant-loop-i
invariant-loop-i l = (l.at ≤ l.next) × (l.at ≤ length l.out → l.next ≤ length l.out)
