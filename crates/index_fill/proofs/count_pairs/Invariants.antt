use Rattle.std.proofs.Common.{◌≤◌}
use Rattle.captions.specs.Tables.{pair_count}
use Rattle.index.specs.Index.{pairs_before}
use Rattle.index_fill.specs.Filling.{Filled}
use Rattle.index_fill.proofs.count_pairs.Given as goal

-- the pairs before each left passed are counted, and no more pairs are passed than come before those of the next
abbrev pub invariant-loop-left : goal.invariant-loop-left
invariant-loop-left l = (l.k ≤ pairs_before l.pairs l.left) × Filled l.pairs (pair_count l.pairs) l.left l.initial.index l.index
