-- `repair_fixes::is_fixable` meets its contract.
-- Assumes nothing.
use borrow.Author.Tests.{le-leb, lt-leb}
use Rattle.repair_fixes.proofs.is_fixable.Statement.{statement}
use Rattle.repair_fixes.proofs.is_fixable.Tie as tie

returns : tie.Need-returns-then-steps-gt32767
returns c = rw (lt-leb _ _ c.if-steps-gt32767.true)

returns-2 : tie.Need-returns-then-replacement-le255
returns-2 c = rw (le-leb _ _ c.if-steps-gt32767.false, le-leb _ _ c.if-replacement-le255.true)

returns-3 : tie.Need-returns-else-replacement-le255
returns-3 c = rw (le-leb _ _ c.if-steps-gt32767.false, lt-leb _ _ c.if-replacement-le255.false)

pub is_fixable_spec : {M : Type 1} → statement M
is_fixable_spec =
    tie.close
    (tie.spec
    returns
    returns-2
    returns-3)
