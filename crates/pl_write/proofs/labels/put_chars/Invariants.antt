use Rattle.property_lists.specs.Displays.{char_labels}
use Rattle.property_lists.specs.Putting.{PutsCounted}
use Rattle.pl_write.proofs.labels.put_chars.Given as goal

-- the labels of the characters passed are put
abbrev pub invariant-loop-c : goal.invariant-loop-c
invariant-loop-c l = PutsCounted l.fn.out l.at (char_labels l.table l.i l.c) l.next l.out
