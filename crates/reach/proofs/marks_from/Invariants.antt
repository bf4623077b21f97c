use Rattle.std.proofs.Common.{◌≡◌}
use Rattle.reach.specs.Reach.{marks_from}
use Rattle.reach.proofs.marks_from.Given as goal

-- what is found is how many of the places passed are marked
abbrev pub invariant-loop-mark : goal.invariant-loop-mark
invariant-loop-mark l = l.found ≡ marks_from l.fn.marks l.i l.mark-index
