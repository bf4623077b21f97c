use Rattle.property_lists.specs.Displays.{program_lines}
use Rattle.property_lists.specs.Putting.{PutsCounted}
use Rattle.pl_write.specs.NextLabels.{NextLabel}
use Rattle.pl_write.proofs.steps.put_steps.Given as goal

-- the instructions passed are put, and the next label is known
abbrev pub invariant-loop-i : goal.invariant-loop-i
invariant-loop-i l =
    PutsCounted l.fn.out l.at (program_lines l.instructions l.kerns l.table l.i) l.next l.out × NextLabel l.table l.i l.label
