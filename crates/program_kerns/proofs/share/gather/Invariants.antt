use Rattle.std.proofs.Common.{length}
use Rattle.program_kerns.specs.Sharing.{Gathered}
use Rattle.program_kerns.proofs.share.gather.Given as goal

-- the values of the first i instructions stand in the list
abbrev pub invariant-loop-i : goal.invariant-loop-i
invariant-loop-i l = Gathered l.instructions l.i (length l.fn.kerns) l.kerns l.links l.m
