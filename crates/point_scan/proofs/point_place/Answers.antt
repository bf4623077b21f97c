use native.Mathlib.Omega.{arith}
use Rattle.point_scan.proofs.Passing.{place_found, place_more, place_end}
use Rattle.point_scan.proofs.point_place.Goals as goal

pub returns-then-b-eq46 : goal.returns-then-b-eq46
returns-then-b-eq46 c = place_found c.args.text.now c.loop-i.i c.loop-i.invariant c.loop-i-test.true c.if-b-eq46.true

pub loop-i-preserved : goal.loop-i-preserved
loop-i-preserved c = place_more c.args.text.now c.loop-i.i c.loop-i.invariant c.loop-i-test.true c.if-b-eq46.false

pub returns : goal.returns
returns c = omega (arith, place_end c.args.text.now c.loop-i.i c.loop-i.invariant c.loop-i-test.false)
