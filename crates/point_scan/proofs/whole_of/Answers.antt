use Rattle.point_scan.proofs.Passing.{valued_more, valued_all}
use Rattle.point_scan.proofs.whole_of.Goals as goal

pub loop-i-preserved : goal.loop-i-preserved
loop-i-preserved c = valued_more c.loop-i.invariant c.loop-i-test.true c.digit_at.ensures.0 c.capped_whole-n.ensures

pub returns : goal.returns
returns c = valued_all c.loop-i.invariant c.loop-i-test.false
