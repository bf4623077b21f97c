use Rattle.std.proofs.Common.{◌≡◌, ◌-◌}
use Rattle.lang.specs.Records.{count, instruction_at}
use Rattle.program_chain.specs.Chains.{first_for, chain_of, rule_index_of}
use Rattle.program_chain.proofs.rule_index.Given as goal

-- the rule on the chain from where the walk is is the rule on the whole chain
abbrev pub invariant-loop-i : goal.invariant-loop-i
invariant-loop-i l = first_for (instruction_at l.instructions) l.right (chain_of l.instructions l.at) ≡ rule_index_of l.instructions l.entry l.right

-- what is left of the instructions, since a step moves ahead
abbrev pub decreases-loop-i : goal.decreases-loop-i
decreases-loop-i l = count l.instructions - l.at
