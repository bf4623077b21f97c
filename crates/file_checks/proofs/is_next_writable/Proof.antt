-- `file_checks::is_next_writable` meets its contract: of the bits, -1 is 2 ^ 32 - 1, and a number from 0 on is its own.
-- Assumes nothing.
use mathlib.Core.Path.{sym}
use Rattle.lang.proofs.Records.{absent_within, absent_past}
use native.Mathlib.Omega.{arith}
use Rattle.file_checks.proofs.is_next_writable.Statement.{statement}
use Rattle.file_checks.proofs.is_next_writable.Tie as tie

returns : tie.Need-returns-then-next-le127
returns c = sym (absent_within 127 c.args.next (omega arith) c.if-next-le127.true)

returns-2 : tie.Need-returns-else-next-le127
returns-2 c = sym (absent_past 127 c.args.next c.if-next-le127.false c.ranges.next.fits)

pub is_next_writable_spec : {M : Type 1} → statement M
is_next_writable_spec =
    tie.close
    (tie.spec
    returns
    returns-2)
