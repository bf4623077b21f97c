-- `pl_reals::is_sign` meets its contract.
-- Assumes nothing.
use borrow.Author.Tests.{eq-eqb, ne_eqb}
use Rattle.pl_reals.proofs.is_sign.Statement.{statement}
use Rattle.pl_reals.proofs.is_sign.Tie as tie

returns : tie.Need-returns-then-b-eq10
returns c =
    let args = c.args in
    rw (eq-eqb args.b 10 c.if-b-eq10.true)

returns-2 : tie.Need-returns-then-b-eq13
returns-2 c =
    let args = c.args in
    rw (ne_eqb args.b 10 c.if-b-eq10.false, eq-eqb args.b 13 c.if-b-eq13.true)

returns-3 : tie.Need-returns-then-held
returns-3 c =
    let args = c.args in
    rw (ne_eqb args.b 10 c.if-b-eq10.false, ne_eqb args.b 13 c.if-b-eq13.false, c.if-held.true)

returns-4 : tie.Need-returns-then-b-eq32
returns-4 c =
    let args = c.args in
    rw (ne_eqb args.b 10 c.if-b-eq10.false, ne_eqb args.b 13 c.if-b-eq13.false, c.if-held.false, eq-eqb args.b 32 c.if-b-eq32.true)

returns-5 : tie.Need-returns-then-b-eq43
returns-5 c =
    let args = c.args in
    rw (ne_eqb args.b 10 c.if-b-eq10.false, ne_eqb args.b 13 c.if-b-eq13.false, c.if-held.false, ne_eqb args.b 32 c.if-b-eq32.false, eq-eqb args.b 43 c.if-b-eq43.true)

returns-6 : tie.Need-returns
returns-6 c =
    let args = c.args in
    rw (ne_eqb args.b 10 c.if-b-eq10.false, ne_eqb args.b 13 c.if-b-eq13.false, c.if-held.false, ne_eqb args.b 32 c.if-b-eq32.false, ne_eqb args.b 43 c.if-b-eq43.false)

pub is_sign_spec : {M : Type 1} → statement M
is_sign_spec =
    tie.close
    (tie.spec
    returns
    returns-2
    returns-3
    returns-4
    returns-5
    returns-6)
