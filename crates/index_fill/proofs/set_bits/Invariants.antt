use Rattle.index_fill.specs.Filling.{Filled}
use Rattle.index_fill.proofs.set_bits.Given as goal

-- the bits of the pairs passed are set
abbrev pub invariant-loop-k : goal.invariant-loop-k
invariant-loop-k l = Filled l.pairs l.k 0 l.initial.index l.index
