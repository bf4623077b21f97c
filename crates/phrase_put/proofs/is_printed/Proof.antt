-- `phrase_put::is_printed` meets its contract.
-- Assumes nothing.
use native.Mathlib.Omega.{arith}
use borrow.Author.Tests.{le-leb, lt-leb}
use Rattle.phrase_put.proofs.is_printed.Statement.{statement}
use Rattle.phrase_put.proofs.is_printed.Tie as tie

returns : tie.Need-returns-then-c-ge33
returns c = rw (le-leb 33 c.args.c (omega arith))

returns-2 : tie.Need-returns-else-c-ge33
returns-2 c = rw (lt-leb 33 c.args.c (omega arith))

pub is_printed_spec : {M : Type 1} → statement M
is_printed_spec =
    tie.close
    (tie.spec
    returns
    returns-2)
