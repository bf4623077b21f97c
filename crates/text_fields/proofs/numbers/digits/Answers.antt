use mathlib.Core.Path.{sym}
use Rattle.text_fields.proofs.Decimals.{counting_none, counting_few, counting_more, counting_low, counting_high, counting_all}
use Rattle.text_fields.proofs.numbers.digits.Goals as goal

pub loop-i-init : goal.loop-i-init
loop-i-init c =
    counting_none c.args.text.now c.args.from c.args.end c.requires.few c.requires.inside c.requires.order

pub returns-then-b-lt48 : goal.returns-then-b-lt48
returns-then-b-lt48 c =
    sym (counting_low c.args.text.now c.args.from c.args.end c.requires.few c.requires.inside c.loop-i.invariant c.loop-i-test.true
    c.if-b-lt48.true)

pub returns-then-b-gt57 : goal.returns-then-b-gt57
returns-then-b-gt57 c =
    sym (counting_high c.args.text.now c.args.from c.args.end c.requires.few c.requires.inside c.loop-i.invariant c.loop-i-test.true
    c.if-b-lt48.false c.if-b-gt57.true)

-- less than a field of 12 columns can hold
pub with_digit-n-requires : goal.with_digit-n-requires
with_digit-n-requires c =
    (counting_few c.args.text.now c.args.from c.args.end c.requires.few c.requires.inside c.loop-i.invariant, c.if-b-lt48.false)

pub loop-i-preserved : goal.loop-i-preserved
loop-i-preserved c =
    rw c.with_digit-n.ensures
    (counting_more c.args.text.now c.args.from c.args.end c.requires.few c.requires.inside c.loop-i.invariant c.loop-i-test.true
    c.if-b-lt48.false c.if-b-gt57.false)

pub returns : goal.returns
returns c =
    sym (counting_all c.args.text.now c.args.from c.args.end c.requires.few c.requires.inside c.loop-i.invariant c.loop-i-test.false)
