use native.Mathlib.Omega.{arith}
use Rattle.text_reply.proofs.Pairs.{pairs_none, pair_more}
use Rattle.text_reply.proofs.parts.put_table.Goals as goal

pub loop-k-init : goal.loop-k-init
loop-k-init c = let a = c.args in pairs_none a.pairs.now a.ops.now a.out.now a.at

pub loop-k-preserved : goal.loop-k-preserved
loop-k-preserved c =
    let a = c.args in
    pair_more a.pairs.now a.ops.now a.out.now a.at c.loop-k.k c.loop-k.next c.loop-k.out c.loop-k-test.true c.requires c.loop-k.invariant
    (omega arith) c.put_pair-next.result c.put_pair-next.new.out c.put_pair-next.ensures c.word_at-first.result c.word_at-count.result
    c.word_at-first.ensures c.word_at-count.ensures c.put_lines-next.result c.put_lines-next.new.out c.put_lines-next.ensures
