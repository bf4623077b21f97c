use Rattle.std.proofs.Common.{sym, ◌∙◌, arith}
use lib.Count.{ones-le}
use Rattle.index.proofs.Looking.{ones_none, ones_more}
use Rattle.index.proofs.ones_from.Goals as goal

pub loop-v-init : goal.loop-v-init
loop-v-init c = (sym (ones_none c.args.index.now c.args.at), omega arith)

pub overflow_add-n : goal.overflow_add-n
overflow_add-n c = omega (arith, ones-le 64 c.index_at.result c.index_at.type_inv)

pub loop-v-preserved : goal.loop-v-preserved
loop-v-preserved c =
    let a = c.args in (
      sym (ones_more a.index.now a.at c.loop-v.v ∙ rw (← c.loop-v.invariant.0, ← c.index_at.ensures)),
      omega (arith, ones-le 64 c.index_at.result c.index_at.type_inv),
    )
