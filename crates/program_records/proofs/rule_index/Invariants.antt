-- The rule on the chain from where the search is is the entry's. The measure is what is left of the records.
use Rattle.std.proofs.Common.{◌≡◌, ◌-◌, ◌≤◌, length}
use Rattle.program_chain.specs.Chains.{chain, first_for, rule_index}
use Rattle.program_records.specs.RecordChains.{record_at}
use Rattle.program_records.proofs.rule_index.Given as goal

abbrev pub invariant-loop-at : goal.invariant-loop-at
invariant-loop-at l =
    (l.n ≡ length l.instructions)
    × (first_for (record_at l.instructions) l.right (chain l.n (record_at l.instructions) l.at)
    ≡ rule_index l.n (record_at l.instructions) l.entry l.right)

abbrev pub decreases-loop-at : goal.decreases-loop-at
decreases-loop-at l = l.n - l.at
