use Rattle.std.proofs.Common.{refl, add-one}
use Rattle.test_requests.specs.Requests.{marked}
use Rattle.test_requests.proofs.sets.mark.Goals as goal

pub loop-i-init : goal.loop-i-init
unfolding marked
loop-i-init c = refl

pub loop-i-preserved : goal.loop-i-preserved
unfolding marked
loop-i-preserved c = rw (c.put_item.ensures, c.loop-i.invariant, c.word_at.ensures.is, add-one)
