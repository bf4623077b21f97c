use mathlib.Core.Path.{◌≡◌}
use Prim.Native.Nat.{◌≤◌}
use lib.ListN.{drop}
use Rattle.property_lists.specs.Indents.{indents_kept, good_indents}
use Rattle.pl_indents.proofs.good_indents.Given as goal

-- what the bytes passed make of the indentation
abbrev pub invariant-loop-b : goal.invariant-loop-b
invariant-loop-b l =
    (l.s.blanks ≤ l.b-index) × (l.s.level ≤ l.b-index) × (l.s.good ≤ l.b-index) × (indents_kept l.s (drop l.b-index l.text) ≡ good_indents l.text)
