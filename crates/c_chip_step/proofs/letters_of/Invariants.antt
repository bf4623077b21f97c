use Rattle.std.proofs.Common.{get_or, replicate}
use Rattle.words.specs.Lists.{Filling}
use Rattle.c_chip_step.proofs.letters_of.Given as goal

-- the letters passed stand in front of zeros
abbrev pub invariant-loop-i : goal.invariant-loop-i
invariant-loop-i l = Filling (λ k. get_or l.codes k 0) (replicate 64 0) l.letters l.i
