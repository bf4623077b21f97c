use Rattle.std.proofs.Common.{◌*◌}
use Rattle.words.specs.Lists.{Filling}
use Rattle.reach.specs.Reach.{reach_number}
use Rattle.reach.proofs.write_reach.Given as goal

-- the output is filled with two numbers for each instruction passed
abbrev pub invariant-loop-i : goal.invariant-loop-i
invariant-loop-i l = Filling (reach_number l.instructions l.marks l.passthrough) l.fn.out l.out (2 * l.i)
