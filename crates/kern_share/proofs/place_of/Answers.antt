use Rattle.std.proofs.Common.{arith}
use Rattle.kern_share.proofs.Laws.{others_more, found_place_lem, no_place}
use Rattle.kern_share.proofs.place_of.Goals as goal

pub loop-p-init : goal.loop-p-init
loop-p-init c = λ j b. absurd (omega arith)

pub loop-p-preserved : goal.loop-p-preserved
loop-p-preserved c =
    let a = c.args in
    others_more a.kerns.now a.m a.word c.ranges.word.fits c.loop-p.p c.word_at.result c.loop-p.invariant c.word_at.ensures c.if-word_at-word.false

pub returns-then-word_at-word : goal.returns-then-word_at-word
returns-then-word_at-word c =
    let a = c.args in
    found_place_lem a.kerns.now a.m a.word c.ranges.word.fits c.requires c.loop-p.p c.word_at.result (omega arith) c.loop-p.invariant c.word_at.ensures
    c.if-word_at-word.true

pub returns : goal.returns
returns c =
    let a = c.args in
    no_place a.kerns.now a.m a.word c.ranges.word.fits c.requires c.loop-p.p (omega arith) c.loop-p.invariant
