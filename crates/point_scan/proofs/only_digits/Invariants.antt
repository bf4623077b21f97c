use mathlib.Core.Path.{◌≡◌}
use lib.ListN.{drop}
use Rattle.points.specs.Scanning.{only_digits}
use Rattle.point_scan.proofs.only_digits.Given as goal

-- the bytes passed are digits
abbrev pub invariant-loop-b : goal.invariant-loop-b
invariant-loop-b l = only_digits l.text ≡ only_digits (drop l.b-index l.text)
