use Rattle.pl_write.specs.NextLabels.{NextLabelIn}
use Rattle.pl_write.proofs.labels.next_label.Given as goal

-- no place passed names an instruction below the lowest
abbrev pub invariant-loop-c : goal.invariant-loop-c
invariant-loop-c l = NextLabelIn l.c l.table l.from l.lowest
