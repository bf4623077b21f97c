use Prim.Native.Nat.{◌-◌}
use lib.ListN.{length}
use Rattle.pl_read.specs.Going.{Going}
use Rattle.pl_read.proofs.whole.read_all.Given as goal

-- what was read so far stands in the lists
abbrev pub invariant-loop-p : goal.invariant-loop-p
invariant-loop-p l = Going l.text l.fn.instructions l.s l.at l.instructions l.labels

abbrev pub decreases-loop-p : goal.decreases-loop-p
decreases-loop-p l = length l.text - l.at
