use Rattle.std.proofs.Common.{◌≡◌, ◌+◌, ◌-◌, length}
use Rattle.lang.specs.Records.{count}
use Rattle.program_chain.specs.Chains.{chain_of}
use Rattle.program_chain.proofs.chain_length.Given as goal

-- what is counted and the chain from where the walk is are together as many as the whole chain has
abbrev pub invariant-loop-on : goal.invariant-loop-on
invariant-loop-on l = l.n + length (chain_of l.instructions l.at) ≡ length (chain_of l.instructions l.entry)

-- what is left of the instructions, since a step moves ahead
abbrev pub decreases-loop-on : goal.decreases-loop-on
decreases-loop-on l = count l.instructions - l.at
