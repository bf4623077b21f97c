use mathlib.Core.Path.{◌≡◌}
use native.Mathlib.Omega.{arith}
use Rattle.text_fields.proofs.Leading.{blank_more, blanks_stop, blanks_all}
use Rattle.text_fields.proofs.blanks.blanks_end.Goals as goal

pub loop-i-preserved : goal.loop-i-preserved
loop-i-preserved c = blank_more c.args.text.now c.loop-i.invariant c.if-text-i-ne32.false

pub returns-then-text-i-ne32 : goal.returns-then-text-i-ne32
returns-then-text-i-ne32 c =
    blanks_stop c.args.text.now c.loop-i.auto.i c.loop-i-test.true c.loop-i.invariant c.if-text-i-ne32.true

pub returns : goal.returns
returns c =
    let e : c.loop-i.i ≡ c.args.end = omega arith in
    rw e at (blanks_all c.args.text.now c.loop-i.auto.i (c.loop-i.auto.i-end c.requires.0) c.loop-i-test.false c.loop-i.invariant)
