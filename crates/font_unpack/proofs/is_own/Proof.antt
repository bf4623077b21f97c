-- `font_unpack::is_own` meets its contract.
-- Assumes nothing.
use borrow.Author.Tests.{le-leb, lt-leb}
use Rattle.font_unpack.proofs.is_own.Statement.{statement}
use Rattle.font_unpack.proofs.is_own.Tie as tie

returns : tie.Need-returns-then-start-entry
returns c = let a = c.args in rw (le-leb a.start a.entry c.if-start-entry.true)

returns-2 : tie.Need-returns-else-start-entry
returns-2 c = let a = c.args in rw (lt-leb a.start a.entry c.if-start-entry.false)

pub is_own_spec : {M : Type 1} → statement M
is_own_spec =
    tie.close
    (tie.spec
    returns
    returns-2)
