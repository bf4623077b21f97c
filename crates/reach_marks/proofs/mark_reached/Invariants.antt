use Rattle.std.proofs.Common.{◌≡◌}
use Rattle.reach_marks.specs.Marks.{marks_after}
use Rattle.reach_marks.proofs.mark_reached.Given as goal

-- the marks are those after a pass over the instructions before i
abbrev pub invariant-loop-i : goal.invariant-loop-i
invariant-loop-i l = l.marks ≡ marks_after l.instructions l.entries l.left_entry l.i
