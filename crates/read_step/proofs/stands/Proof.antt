-- `read_step::stands` meets its contract.
-- Assumes nothing.
use borrow.Author.Tests.{lt-ltb, le-ltb}
use Rattle.read_step.proofs.stands.Statement.{statement}
use Rattle.read_step.proofs.stands.Tie as tie

returns : tie.Need-returns-then-cursor-count
returns c = let a = c.args in rw (lt-ltb a.cursor a.count c.if-cursor-count.true)

returns-2 : tie.Need-returns-else-cursor-count
returns-2 c = let a = c.args in rw (le-ltb a.cursor a.count c.if-cursor-count.false)

pub stands_spec : {M : Type 1} → statement M
stands_spec =
    tie.close
    (tie.spec
    returns
    returns-2)
