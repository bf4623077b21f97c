-- `pl_values::bytes::expansion_of` meets its contract.
-- Assumes nothing.
use borrow.Author.Tests.{eq-eqb, ne_eqb}
use native.Mathlib.Omega.{arith}
use Rattle.pl_values.proofs.bytes.expansion_of.Statement.{statement}
use Rattle.pl_values.proofs.bytes.expansion_of.Tie as tie

returns : tie.Need-returns-then-b-eq82
returns c =
    let args = c.args in
    (rw (eq-eqb args.b 82 c.if-b-eq82.true), omega arith)

returns-2 : tie.Need-returns-then-b-eq67
returns-2 c =
    let args = c.args in
    (rw (ne_eqb args.b 82 c.if-b-eq82.false, eq-eqb args.b 67 c.if-b-eq67.true), omega arith)

returns-3 : tie.Need-returns-then-b-eq69
returns-3 c =
    let args = c.args in
    (rw (ne_eqb args.b 82 c.if-b-eq82.false, ne_eqb args.b 67 c.if-b-eq67.false, eq-eqb args.b 69 c.if-b-eq69.true), omega arith)

returns-4 : tie.Need-returns
returns-4 c =
    let args = c.args in
    (rw (ne_eqb args.b 82 c.if-b-eq82.false, ne_eqb args.b 67 c.if-b-eq67.false, ne_eqb args.b 69 c.if-b-eq69.false), omega arith)

pub expansion_of_spec : {M : Type 1} → statement M
expansion_of_spec =
    tie.close
    (tie.spec
    returns
    returns-2
    returns-3
    returns-4)
