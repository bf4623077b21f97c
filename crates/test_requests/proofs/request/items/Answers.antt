use Rattle.std.proofs.Common.{arith}
use Rattle.test_requests.proofs.Parts.{items_none, items_are}
use Rattle.test_requests.proofs.request.items.Goals as goal

pub returns-then-numbers-at : goal.returns-then-numbers-at
returns-then-numbers-at c = let a = c.args in items_none a.width a.numbers.now a.at (omega arith)

pub returns : goal.returns
returns c =
    let a = c.args in
    items_are a.width a.numbers.now a.at c.part.result.now c.after.result (omega arith) c.after.ensures c.part.ensures
