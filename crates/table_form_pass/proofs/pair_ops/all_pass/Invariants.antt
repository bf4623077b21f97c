use Rattle.std.proofs.Common.{◌≡◌, ◌-◌}
use Rattle.reading.specs.Items.{Item}
use Rattle.table_form_pass.specs.Parts.{left_by, ops_pass}
use Rattle.table_form_pass.proofs.pair_ops.all_pass.Given as goal

-- the ops passed are kerns, so that those from here on pass exactly when all do
abbrev pub invariant-loop-i : goal.invariant-loop-i
invariant-loop-i l = (x : Item) → ops_pass l.ops (left_by l.left) x l.start (l.end - l.start) ≡ ops_pass l.ops (left_by l.left) x l.i (l.end - l.i)
