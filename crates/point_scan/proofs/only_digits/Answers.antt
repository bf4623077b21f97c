use Rattle.point_scan.proofs.Passing.{digits_below, digits_above, digits_more, digits_end}
use Rattle.point_scan.proofs.only_digits.Goals as goal

pub returns-then-b-lt48 : goal.returns-then-b-lt48
returns-then-b-lt48 c =
    digits_below c.args.text.now c.loop-b.b-index c.loop-b.invariant c.loop-b-test.true c.if-b-lt48.true

pub returns-then-b-gt57 : goal.returns-then-b-gt57
returns-then-b-gt57 c =
    digits_above c.args.text.now c.loop-b.b-index c.loop-b.invariant c.loop-b-test.true c.if-b-lt48.false c.if-b-gt57.true

pub loop-b-preserved : goal.loop-b-preserved
loop-b-preserved c =
    digits_more c.args.text.now c.loop-b.b-index c.loop-b.invariant c.loop-b-test.true c.if-b-lt48.false c.if-b-gt57.false

pub returns : goal.returns
returns c = digits_end c.args.text.now c.loop-b.b-index c.loop-b.invariant c.loop-b-test.false
