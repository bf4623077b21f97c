-- `repair_entries::is_enterable` meets its contract.
-- Assumes nothing.
use borrow.Author.Tests.{le-leb, lt-leb}
use Rattle.repair_entries.proofs.is_enterable.Statement.{statement}
use Rattle.repair_entries.proofs.is_enterable.Tie as tie

returns : tie.Need-returns-then-instructions-le32767
returns c = rw (le-leb _ _ c.if-instructions-le32767.true)

returns-2 : tie.Need-returns-else-instructions-le32767
returns-2 c = rw (lt-leb _ _ c.if-instructions-le32767.false)

pub is_enterable_spec : {M : Type 1} → statement M
is_enterable_spec =
    tie.close
    (tie.spec
    returns
    returns-2)
