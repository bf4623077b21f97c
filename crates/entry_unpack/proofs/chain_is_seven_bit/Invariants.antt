use Rattle.std.proofs.Common.{◌≡◌, ◌-◌}
use Rattle.lang.specs.Records.{count}
use Rattle.program_chain.specs.Chains.{chain_of}
use Rattle.entry_unpack.specs.Unpacking.{all_seven_bit}
use Rattle.entry_unpack.proofs.chain_is_seven_bit.Given as goal

-- the test of the chain from the entry is that of the chain from where the walk is
abbrev pub invariant-loop-i : goal.invariant-loop-i
invariant-loop-i l = all_seven_bit l.instructions (chain_of l.instructions l.entry) ≡ all_seven_bit l.instructions (chain_of l.instructions l.at)

-- what is left of the instructions
abbrev pub decreases-loop-i : goal.decreases-loop-i
decreases-loop-i l = count l.instructions - l.at
