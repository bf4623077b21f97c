use Rattle.std.proofs.Common.{arith}
use Rattle.test_requests.proofs.Parts.{after_none, after_past, after_is}
use Rattle.test_requests.proofs.request.after.Goals as goal

pub returns-then-numbers-at : goal.returns-then-numbers-at
returns-then-numbers-at c = let a = c.args in after_none a.width a.numbers.now a.at (omega arith)

pub returns-then-numbers-at-2 : goal.returns-then-numbers-at-2
returns-then-numbers-at-2 c =
    let a = c.args in
    after_past a.width a.numbers.now a.at c.word_at.result c.word_at.ensures.is (omega arith) (omega arith)

pub returns : goal.returns
returns c =
    let a = c.args in
    after_is a.width a.numbers.now a.at c.word_at.result c.word_at.ensures.is (omega arith) (omega arith)
