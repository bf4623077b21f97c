use mathlib.Core.Path.{◌≡◌}
use Prim.Native.Nat.{◌-◌, ◌≤◌}
use lib.ListN.{drop}
use Rattle.property_lists.specs.Chars.{past_comment}
use Rattle.pl_chars.proofs.past_comment.Given as goal

-- no more parentheses are open than bytes were passed
abbrev pub invariant-loop-i : goal.invariant-loop-i
invariant-loop-i l = (l.depth ≤ l.i - l.at) × (past_comment l.depth (drop l.i l.text) ≡ past_comment 0 (drop l.at l.text))
