use Rattle.std.proofs.Common.{◌-◌}
use Rattle.lang.specs.Records.{count}
use Rattle.program_chain.proofs.Walks.{Walking}
use Rattle.program_chain.proofs.write_chain.Given as goal

-- what is written, with the chain from where the walk is, is the whole chain
abbrev pub invariant-loop-i : goal.invariant-loop-i
invariant-loop-i l = Walking l.instructions l.entry l.fn.out l.out l.n l.at

-- what is left of the instructions, since a step moves ahead
abbrev pub decreases-loop-i : goal.decreases-loop-i
decreases-loop-i l = count l.instructions - l.at
