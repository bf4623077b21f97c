use Rattle.std.proofs.Common.{refl, ◌∙◌, arith}
use Rattle.lang.specs.Entries.{entered}
use Rattle.lang.proofs.Tables.{entered_more, entered_all}
use Rattle.lang.proofs.entries.entries_table.Goals as goal

pub loop-i-init : goal.loop-i-init
unfolding entered
loop-i-init c = refl

pub loop-i-preserved : goal.loop-i-preserved
loop-i-preserved c =
    c.put_word.ensures
    ∙ rw c.loop-i.invariant
    (entered_more c.args.entries.now c.loop-i.i c.word_at-c.result c.word_at.result c.word_at-c.ensures c.word_at.ensures)

pub returns : goal.returns
returns c =
    entered_all c.args.entries.now c.loop-i.table c.args.left_entry c.loop-i.i c.ranges.left_entry c.loop-i.invariant (omega arith)
    (omega arith)
