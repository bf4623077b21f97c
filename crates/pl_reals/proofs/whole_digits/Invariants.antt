use mathlib.Core.Path.{◌≡◌}
use Prim.Native.Nat.{◌<◌}
use lib.ListN.{drop}
use Rattle.property_lists.specs.Values.{whole_digits}
use Rattle.pl_reals.proofs.whole_digits.Given as goal

-- the value of the digits passed
abbrev pub invariant-loop-i : goal.invariant-loop-i
invariant-loop-i l = (l.n < 2048) × (whole_digits l.n (drop l.i l.text) ≡ whole_digits 0 (drop l.at l.text))
