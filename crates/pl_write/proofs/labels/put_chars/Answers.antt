use native.Mathlib.Omega.{arith}
use Rattle.pl_write.proofs.Tables.{chars_none, chars_one, chars_same, chars_all}
use Rattle.pl_write.proofs.labels.put_chars.Goals as goal
use Rattle.pl_write.proofs.labels.put_chars.Goals.{then-entry_at-i, else-entry_at-i}

pub loop-c-init : goal.loop-c-init
loop-c-init c = chars_none c.args.table.now c.args.i c.min-next.ensures

pub loop-c-preserved : goal.loop-c-preserved
loop-c-preserved c =
    let a = c.args in
    let l = c.loop-c in
    let q = c.entry_at.ensures in
    elim c.if-entry_at-i.branch [
      | then-entry_at-i w ↦ rw (w.out-is, w.next-is) (chars_one a.table.now a.i l.c l.invariant q w.if-entry_at-i.true w.put_label-next.ensures)
      | else-entry_at-i w ↦ rw (w.out-is, w.next-is) (chars_same a.table.now a.i l.c l.invariant q w.if-entry_at-i.false)
    ]

pub returns : goal.returns
returns c = chars_all c.args.table.now c.args.i c.loop-c.c (omega arith) c.loop-c.invariant
