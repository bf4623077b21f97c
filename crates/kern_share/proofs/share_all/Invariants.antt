use Rattle.kern_share.proofs.Laws.{Sharing}
use Rattle.kern_share.proofs.share_all.Given as goal

-- the first i instructions are shared, the others as they were
abbrev pub invariant-loop-i : goal.invariant-loop-i
invariant-loop-i l = Sharing l.fn.instructions l.kerns l.k l.instructions l.i
