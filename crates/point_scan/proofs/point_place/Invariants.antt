use mathlib.Core.Path.{◌≡◌}
use Prim.Native.Nat.{◌+◌}
use lib.ListN.{drop}
use Rattle.points.specs.Scanning.{point_place}
use Rattle.point_scan.proofs.point_place.Given as goal

-- no byte passed is a point
abbrev pub invariant-loop-i : goal.invariant-loop-i
invariant-loop-i l = point_place l.text ≡ l.i + point_place (drop l.i l.text)
