use mathlib.Core.Path.{◌≡◌}
use Prim.Native.Nat.{◌+◌, ◌≤◌}
use lib.ListN.{length, drop}
use Rattle.property_lists.specs.Chars.{past_name}
use Rattle.pl_chars.proofs.past_name.Given as goal

-- the letters passed are the same
abbrev pub invariant-loop-k : goal.invariant-loop-k
invariant-loop-k l =
    (l.first + l.k ≤ length l.text) × (past_name (drop l.k l.name) (drop (l.first + l.k) l.text) ≡ past_name l.name (drop l.at l.text))
