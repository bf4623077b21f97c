use Rattle.std.proofs.Common.{◌≡◌, refl, arith}
use Rattle.word_plain_letters.specs.PlainLetters.{none_stand}
use Rattle.word_plain_letters.proofs.Laws.{stand_left, stand_more}
use Rattle.word_plain_letters.proofs.give_plain.Goals as goal

pub loop-i-init : goal.loop-i-init
loop-i-init c = none_stand

pub returns-then-y-gt255 : goal.returns-then-y-gt255
returns-then-y-gt255 c = (c.loop-i.invariant, λ h. absurd (omega (arith, h)))

pub returns-then-p-none : goal.returns-then-p-none
returns-then-p-none c = (c.loop-i.invariant, λ h. (omega arith, c.if-y-gt255.false, c.found_place-p.ensures))

pub overflow_sub-l : goal.overflow_sub-l
overflow_sub-l c = omega (arith, stand_left c.requires.some c.requires.small c.loop-i.invariant)

pub loop-i-preserved : goal.loop-i-preserved
loop-i-preserved c =
    stand_more c.loop-i.invariant (omega arith) refl c.if-y-gt255.false c.found_place-p.ensures c.if-p-none.false (omega arith) c.write_six.ensures

pub returns : goal.returns
returns c =
    let e : c.loop-i.i ≡ c.args.n = omega arith in
    (rw e at c.loop-i.invariant, λ h. absurd (omega (arith, h)))
