use Rattle.std.proofs.Common.{◌≤◌, length}
use Rattle.test_requests.proofs.answer.put_list.Given as goal

-- the place goes on, and stays within the list
abbrev pub invariant-loop-number : goal.invariant-loop-number
invariant-loop-number l = (l.at ≤ l.next) × (l.at ≤ length l.out → l.next ≤ length l.out)
