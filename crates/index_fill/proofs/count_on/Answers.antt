use Rattle.std.proofs.Common.{arith}
use Rattle.index.proofs.Places.{before_all, goes_on, begins_by}
use Rattle.index_fill.proofs.Laws.{place_read}
use Rattle.index_fill.proofs.count_on.Goals as goal

pub returns-then-left-left_place : goal.returns-then-left-left_place
returns-then-left-left_place c =
    let p = place_read c.number_at.ensures c.left_place.ensures in
    omega (
      arith,
      begins_by c.args.pairs.now c.requires.0 c.args.left c.loop-k.k c.loop-k-test.true (omega (arith, p, c.if-left-left_place.true)),
    )

pub loop-k-preserved : goal.loop-k-preserved
loop-k-preserved c =
    let p = place_read c.number_at.ensures c.left_place.ensures in
    goes_on c.args.pairs.now c.requires.0 c.args.left c.loop-k.k c.loop-k-test.true (omega (arith, p, c.if-left-left_place.false))

pub returns : goal.returns
returns c = omega (arith, before_all c.args.pairs.now c.requires.0 c.args.left)
