-- `pl_progress::bounded` meets its contract.
-- Assumes nothing.
use borrow.Author.Tests.{eq-eqb, ne_eqb}
use Rattle.pl_progress.proofs.bounded.Statement.{statement}
use Rattle.pl_progress.proofs.bounded.Tie as tie

returns : tie.Need-returns-then-s-ne0
returns c =
    let args = c.args in
    rw (ne_eqb args.s.stage 0 c.if-s-ne0.true)

returns-2 : tie.Need-returns
returns-2 c =
    let args = c.args in
    rw (eq-eqb args.s.stage 0 c.if-s-ne0.false)

pub bounded_spec : {M : Type 1} → statement M
bounded_spec =
    tie.close
    (tie.spec
    returns
    returns-2)
