use Rattle.std.proofs.Common.{length, refl, arith}
use Rattle.reach_marks.proofs.Marks.{marked_none, marked_more, marked_all}
use Rattle.reach_marks.proofs.mark_entries.Goals as goal

pub loop-k-init : goal.loop-k-init
loop-k-init c = rw c.zero_all.auto.s at (marked_none (length c.args.marks.now) c.args.entries.now c.zero_all.new.s c.zero_all.ensures)

pub loop-k-preserved : goal.loop-k-preserved
loop-k-preserved c =
    marked_more (length c.args.marks.now) c.args.entries.now c.loop-k.k c.word_at-entry.result c.loop-k.marks c.put_item.new.s c.loop-k.invariant
    c.word_at-entry.ensures.is c.put_item.ensures

pub returns : goal.returns
returns c =
    marked_all (length c.args.marks.now) (length c.args.marks.now) c.args.entries.now c.loop-k.k c.loop-k.marks c.loop-k.invariant refl (omega arith)
    (omega arith)
