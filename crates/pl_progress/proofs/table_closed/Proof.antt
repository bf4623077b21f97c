-- `pl_progress::table_closed` meets its contract.
-- Assumes nothing.
use borrow.Author.Tests.{eq-eqb, ne_eqb}
use Rattle.pl_progress.proofs.table_closed.Statement.{statement}
use Rattle.pl_progress.proofs.table_closed.Tie as tie

returns : tie.Need-returns-then-s-ne2
returns c =
    let args = c.args in
    rw (ne_eqb args.s.stage 2 c.if-s-ne2.true)

returns-2 : tie.Need-returns
returns-2 c =
    let args = c.args in
    rw (eq-eqb args.s.stage 2 c.if-s-ne2.false)

pub table_closed_spec : {M : Type 1} → statement M
table_closed_spec =
    tie.close
    (tie.spec
    returns
    returns-2)
