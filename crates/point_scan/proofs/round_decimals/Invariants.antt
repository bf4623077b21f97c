use Rattle.point_scan.proofs.Passing.{HalfRead}
use Rattle.point_scan.proofs.round_decimals.Given as goal

-- what the decimals from the last to the one passed come to
abbrev pub invariant-loop-k : goal.invariant-loop-k
invariant-loop-k l = HalfRead l.text l.a l.k
