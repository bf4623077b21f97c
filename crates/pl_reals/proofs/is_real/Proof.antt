-- `pl_reals::is_real` meets its contract.
-- Assumes nothing.
use borrow.Author.Tests.{eq-eqb, ne_eqb}
use Rattle.pl_reals.proofs.is_real.Statement.{statement}
use Rattle.pl_reals.proofs.is_real.Tie as tie

returns : tie.Need-returns-then-t-eq82
returns c =
    let args = c.args in
    rw (eq-eqb args.t 82 c.if-t-eq82.true)

returns-2 : tie.Need-returns
returns-2 c =
    let args = c.args in
    rw (ne_eqb args.t 82 c.if-t-eq82.false)

pub is_real_spec : {M : Type 1} → statement M
is_real_spec =
    tie.close
    (tie.spec
    returns
    returns-2)
