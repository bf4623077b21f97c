use native.Mathlib.Omega.{arith}
use Rattle.text_reply.proofs.Counts.{none_counted, table_counted, count_more, count_over}
use Rattle.text_reply.proofs.size.table_size.Goals as goal

pub loop-k-init : goal.loop-k-init
loop-k-init c = record { few = omega arith; counted = none_counted c.args.pairs.now }

pub loop-k-preserved : goal.loop-k-preserved
loop-k-preserved c =
    record {
      few = c.if-size-gt65536.false;
      counted = count_more c.args.pairs.now c.loop-k.k c.loop-k.size c.loop-k.invariant.counted c.word_at.result c.word_at.ensures;
    }

pub returns-then-size-gt65536 : goal.returns-then-size-gt65536
returns-then-size-gt65536 c =
    count_over c.args.pairs.now c.loop-k.k c.loop-k.size c.loop-k.invariant.counted c.word_at.result c.word_at.ensures c.loop-k-test.true c.if-size-gt65536.true

pub returns : goal.returns
returns c =
    table_counted c.args.pairs.now c.loop-k.k c.loop-k.size c.loop-k.invariant.counted c.loop-k.invariant.few (omega arith)
