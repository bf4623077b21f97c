use Rattle.point_scan.proofs.Passing.{Valued}
use Rattle.point_scan.proofs.whole_of.Given as goal

-- the value of the digits passed, capped
abbrev pub invariant-loop-i : goal.invariant-loop-i
invariant-loop-i l = Valued l.text l.n l.i
