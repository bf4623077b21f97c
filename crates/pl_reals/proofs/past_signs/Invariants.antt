use mathlib.Core.Path.{◌≡◌}
use mathlib.Core.Bool.{false}
use Prim.Native.Nat.{◌≤◌}
use lib.ListN.{drop}
use Rattle.property_lists.specs.Values.{past_signs}
use Rattle.pl_reals.proofs.past_signs.Given as goal

-- what the bytes passed come to
abbrev pub invariant-loop-i : goal.invariant-loop-i
invariant-loop-i l = (l.minus ≤ 1) × (past_signs l.held l.minus (drop l.i l.text) ≡ past_signs false 0 (drop l.at l.text))
