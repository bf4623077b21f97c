use native.Mathlib.Omega.{arith}
use Rattle.pl_write.proofs.Tables.{label_none, label_lower, label_same, label_all}
use Rattle.pl_write.proofs.labels.next_label.Goals as goal
use Rattle.pl_write.proofs.labels.next_label.Goals.{then-from-entry, else-from-entry}

pub loop-c-init : goal.loop-c-init
loop-c-init c = label_none c.args.table.now c.args.from c.args.n c.requires

pub loop-c-preserved : goal.loop-c-preserved
loop-c-preserved c =
    let n = c.loop-c.invariant in
    let q = c.entry_at-entry.ensures in
    elim c.if-from-entry.branch [
      | then-from-entry w ↦ rw w.lowest-is (label_lower n q w.if-from-entry.true w.min-lowest.ensures)
      | else-from-entry w ↦ rw w.lowest-is (label_same n q (omega arith))
    ]

pub returns : goal.returns
returns c = label_all (omega arith) c.loop-c.invariant
