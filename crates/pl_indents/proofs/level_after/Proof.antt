-- `pl_indents::level_after` meets its contract.
-- Assumes nothing.
use borrow.Author.Tests.{eq-eqb, ne_eqb}
use borrow.Author.Rules.{rules}
use native.Mathlib.Omega.{arith}
use Rattle.pl_indents.proofs.level_after.Statement.{statement}
use Rattle.pl_indents.proofs.level_after.Tie as tie

add-result : tie.Need-overflow_add-result
add-result c = search rules

returns : tie.Need-returns-then-b-eq40
returns c =
    let args = c.args in
    (rw (eq-eqb args.b 40 c.if-b-eq40.true), omega arith)

returns-2 : tie.Need-returns-then-level-eq0
returns-2 c =
    let args = c.args in
    (rw (ne_eqb args.b 40 c.if-b-eq40.false, eq-eqb args.b 41 c.if-b-eq41.true, c.if-level-eq0.true), omega arith)

sub-result : tie.Need-overflow_sub-result
sub-result c = search rules

returns-3 : tie.Need-returns-then-b-eq41
returns-3 c =
    let args = c.args in
    (rw (ne_eqb args.b 40 c.if-b-eq40.false, eq-eqb args.b 41 c.if-b-eq41.true), omega arith)

returns-4 : tie.Need-returns
returns-4 c =
    let args = c.args in
    (rw (ne_eqb args.b 40 c.if-b-eq40.false, ne_eqb args.b 41 c.if-b-eq41.false), omega arith)

pub level_after_spec : {M : Type 1} → statement M
level_after_spec =
    tie.close
    (tie.spec
    add-result
    returns
    returns-2
    sub-result
    returns-3
    returns-4)
