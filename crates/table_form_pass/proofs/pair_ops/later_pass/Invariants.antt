use Rattle.std.proofs.Common.{◌≡◌, ◌-◌}
use Rattle.reading.specs.Items.{bnd, Item}
use Rattle.table_form_pass.specs.Parts.{ops_pass}
use Rattle.table_form_pass.proofs.pair_ops.later_pass.Given as goal

-- the ops from here on pass exactly when all do
abbrev pub invariant-loop-i : goal.invariant-loop-i
invariant-loop-i l = (x : Item) → ops_pass l.ops bnd x l.start (l.end - l.start) ≡ ops_pass l.ops bnd x l.i (l.end - l.i)
