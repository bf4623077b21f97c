use mathlib.Core.Path.{◌≡◌}
use Prim.Native.Nat.{◌≤◌}
use lib.Seq.{slice}
use Rattle.property_lists.specs.Reals.{decimal_sum}
use Rattle.pl_reals.proofs.decimal_sum.Given as goal

-- what the decimals passed come to
abbrev pub invariant-loop-k : goal.invariant-loop-k
invariant-loop-k l = (l.from ≤ l.k) × (l.a ≤ 500000000) × (l.a ≡ decimal_sum (slice l.k l.end l.text))
