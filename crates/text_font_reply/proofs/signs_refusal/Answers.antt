use native.Mathlib.Omega.{arith}
use lib.Dec.{ltb}
use lib.ListN.{get_or}
use borrow.Author.Tests.{lt-ltb}
use Rattle.lang.proofs.Every.{every_none, every_more}
use Rattle.text_font_reply.proofs.Laws.{signs_each, signs_fail}
use Rattle.text_font_reply.proofs.signs_refusal.Goals as goal

pub loop-letter-init : goal.loop-letter-init
loop-letter-init c = every_none (λ j. ltb (get_or c.args.word.now j 0) 2147483648)

pub loop-letter-preserved : goal.loop-letter-preserved
loop-letter-preserved c =
    let word = c.args.word.now in
    every_more c.loop-letter.letter-index (λ j. ltb (get_or word j 0) 2147483648) c.loop-letter.invariant
    (lt-ltb (get_or word c.loop-letter.letter-index 0) 2147483648 c.if-letter-ge2147483648.false)

pub returns-then-letter-ge2147483648 : goal.returns-then-letter-ge2147483648
returns-then-letter-ge2147483648 c =
    signs_fail c.args.word.now c.loop-letter.letter-index c.loop-letter-test.true c.if-letter-ge2147483648.true

pub returns : goal.returns
returns c = signs_each c.args.word.now c.loop-letter.letter-index c.loop-letter.invariant (omega arith) c.loop-letter-test.false
