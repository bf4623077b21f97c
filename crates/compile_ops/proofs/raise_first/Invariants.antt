use Rattle.std.proofs.Common.{◌≡◌, ◌-◌, List}
use Rattle.reading.specs.Items.{Out}
use Rattle.compiling.specs.OpSteps.{OpsAt}
use Rattle.compiling.proofs.OpTables.{Passed}
use Rattle.compile_ops.proofs.raise_first.Given as goal

-- nothing is stored yet, and the ops passed are kerns
abbrev pub invariant-loop-i : goal.invariant-loop-i
invariant-loop-i l = (l.ops ≡ l.fn.ops) × ((os : List Out) → OpsAt l.fn.ops l.from l.to os → Passed l.from l.i os)

abbrev pub decreases-loop-i : goal.decreases-loop-i
decreases-loop-i l = l.to - l.i
