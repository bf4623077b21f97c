use Rattle.std.proofs.Common.{arith}
use Rattle.test_requests.proofs.Parts.{part_before, part_past, part_is}
use Rattle.test_requests.proofs.request.part.Goals as goal

pub returns-then-to-from : goal.returns-then-to-from
returns-then-to-from c = let a = c.args in part_before a.numbers.now a.from a.to (omega arith)

pub returns-then-numbers-to : goal.returns-then-numbers-to
returns-then-numbers-to c = let a = c.args in part_past a.numbers.now a.from a.to (omega arith) (omega arith)

pub returns : goal.returns
returns c = let a = c.args in part_is a.numbers.now a.from a.to (omega arith) (omega arith)
