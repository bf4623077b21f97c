use Rattle.std.proofs.Common.{◌≡◌, length}
use Rattle.reach_marks.specs.Marks.{entries_marked}
use Rattle.reach_marks.proofs.mark_entries.Given as goal

-- the marks are those of the entries passed
abbrev pub invariant-loop-k : goal.invariant-loop-k
invariant-loop-k l = l.marks ≡ entries_marked (length l.fn.marks) l.entries l.k
