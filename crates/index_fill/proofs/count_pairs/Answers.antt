use Rattle.std.proofs.Common.{◌+◌, refl, arith}
use Rattle.captions.specs.Tables.{pair_count}
use Rattle.index.proofs.Places.{before_mono}
use Rattle.index_fill.proofs.Laws.{filled_left}
use Rattle.index_fill.proofs.count_pairs.Goals as goal

pub loop-left-init : goal.loop-left-init
loop-left-init c = (omega arith, c.requires.filled)

pub loop-left-preserved : goal.loop-left-preserved
loop-left-preserved c =
    let n = c.count_on-k.ensures in (
      omega (arith, n, before_mono c.args.pairs.now c.requires.in_bounds.1 c.loop-left.left (c.loop-left.left + 1) (omega arith)),
      filled_left c.args.pairs.now (pair_count c.args.pairs.now) c.loop-left.left c.loop-left.invariant.1 (omega (arith, c.loop-left-test.true))
          (omega (arith, c.loop-left.invariant.1.same)) n refl,
    )
