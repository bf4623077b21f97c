use Rattle.kern_share.proofs.Laws.{Others}
use Rattle.kern_share.proofs.place_of.Given as goal

-- the kerns passed are others
abbrev pub invariant-loop-p : goal.invariant-loop-p
invariant-loop-p l = Others l.kerns l.word l.p
