-- `pl_reals::bits_of` meets its contract.
-- Assumes nothing.
use borrow.Author.Tests.{eq-eqb, ne_eqb}
use borrow.Author.Rules.{rules}
use native.Mathlib.Omega.{arith}
use Rattle.pl_reals.proofs.bits_of.Statement.{statement}
use Rattle.pl_reals.proofs.bits_of.Tie as tie

returns : tie.Need-returns-then-m-eq0
returns c =
    let args = c.args in
    rw (eq-eqb args.minus 1 c.if-minus-eq1.true, c.if-m-eq0.true)

sub-result : tie.Need-overflow_sub-result
sub-result c = search rules

add-result : tie.Need-overflow_add-result
add-result c = search rules

returns-2 : tie.Need-returns-then-minus-eq1
returns-2 c =
    let args = c.args in
    let pre = c.requires in
    rw (eq-eqb args.minus 1 c.if-minus-eq1.true) (omega (arith, c.if-m-eq0.false, pre))

returns-3 : tie.Need-returns
returns-3 c =
    let args = c.args in
    rw (ne_eqb args.minus 1 c.if-minus-eq1.false)

pub bits_of_spec : {M : Type 1} → statement M
bits_of_spec =
    tie.close
    (tie.spec
    returns
    sub-result
    add-result
    returns-2
    returns-3)
