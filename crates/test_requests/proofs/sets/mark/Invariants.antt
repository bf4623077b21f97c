use Rattle.std.proofs.Common.{◌≡◌}
use Rattle.test_requests.specs.Requests.{marked}
use Rattle.test_requests.proofs.sets.mark.Given as goal

-- the marks of the numbers passed
abbrev pub invariant-loop-i : goal.invariant-loop-i
invariant-loop-i l = l.marks ≡ marked l.i l.listed l.fn.marks
