-- `pl_reals::turned` meets its contract.
-- Assumes nothing.
use borrow.Author.Tests.{eq-eqb, ne_eqb}
use borrow.Author.Rules.{rules}
use native.Mathlib.Omega.{arith}
use Rattle.pl_reals.proofs.turned.Statement.{statement}
use Rattle.pl_reals.proofs.turned.Tie as tie

sub-result : tie.Need-overflow_sub-result
sub-result c = search rules

returns : tie.Need-returns-then-b-eq45
returns c =
    let args = c.args in
    (rw (eq-eqb args.b 45 c.if-b-eq45.true), omega arith)

returns-2 : tie.Need-returns
returns-2 c =
    let args = c.args in
    let pre = c.requires in
    (rw (ne_eqb args.b 45 c.if-b-eq45.false), pre)

pub turned_spec : {M : Type 1} → statement M
turned_spec =
    tie.close
    (tie.spec
    sub-result
    returns
    returns-2)
