use Rattle.kern_share.proofs.Laws.{Gathering}
use Rattle.kern_share.proofs.gather.Given as goal

-- the kerns of the first i instructions stand in front
abbrev pub invariant-loop-i : goal.invariant-loop-i
invariant-loop-i l = Gathering l.instructions l.fn.kerns l.kerns l.k l.i l.m
