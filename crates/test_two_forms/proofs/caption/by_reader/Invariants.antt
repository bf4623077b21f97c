-- Fewer are left after each item.
use Rattle.test_two_forms.proofs.caption.by_reader.Given as goal

abbrev pub decreases-loop-left : goal.decreases-loop-left
decreases-loop-left g l = l.left
