-- `pl_progress::table_opened` meets its contract.
-- Assumes nothing.
use borrow.Author.Tests.{lt-leb, le-leb}
use Rattle.pl_progress.proofs.table_opened.Statement.{statement}
use Rattle.pl_progress.proofs.table_opened.Tie as tie

returns : tie.Need-returns-then-s-gt1
returns c =
    let args = c.args in
    rw (lt-leb args.s.stage 1 c.if-s-gt1.true)

returns-2 : tie.Need-returns
returns-2 c =
    let args = c.args in
    rw (le-leb args.s.stage 1 c.if-s-gt1.false)

pub table_opened_spec : {M : Type 1} → statement M
table_opened_spec =
    tie.close
    (tie.spec
    returns
    returns-2)
