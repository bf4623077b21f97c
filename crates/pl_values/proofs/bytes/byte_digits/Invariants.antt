use mathlib.Core.Path.{◌≡◌}
use Prim.Native.Nat.{◌≤◌}
use lib.ListN.{drop}
use Rattle.property_lists.specs.Values.{byte_digits}
use Rattle.pl_values.proofs.bytes.byte_digits.Given as goal

-- the value of the digits passed
abbrev pub invariant-loop-i : goal.invariant-loop-i
invariant-loop-i l = (l.n ≤ 255) × (byte_digits l.base l.n (drop l.i l.text) ≡ byte_digits l.base 0 (drop l.at l.text))
