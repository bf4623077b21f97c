use native.Mathlib.Omega.{arith}
use borrow.Author.Tests.{ne_eqb}
use Rattle.text_convert_lines.proofs.Cutting.{length_feed, length_more, length_none}
use Rattle.text_convert_lines.proofs.line_length.Goals as goal

pub returns-then-b-eq10 : goal.returns-then-b-eq10
returns-then-b-eq10 c =
    omega (arith, c.loop-n.invariant, length_feed c.args.text.now c.loop-n.n c.loop-n-test.true c.if-b-eq10.true)

pub loop-n-preserved : goal.loop-n-preserved
loop-n-preserved c =
    omega (arith, c.loop-n.invariant, length_more c.args.text.now c.loop-n.n c.loop-n-test.true (ne_eqb _ 10 c.if-b-eq10.false))

pub returns : goal.returns
returns c = omega (arith, c.loop-n.invariant, length_none c.args.text.now c.loop-n.n (omega arith))
