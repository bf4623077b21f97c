-- `pl_values::bytes::slope_of` meets its contract.
-- Assumes nothing.
use borrow.Author.Tests.{eq-eqb, ne_eqb}
use native.Mathlib.Omega.{arith}
use Rattle.pl_values.proofs.bytes.slope_of.Statement.{statement}
use Rattle.pl_values.proofs.bytes.slope_of.Tie as tie

returns : tie.Need-returns-then-b-eq82
returns c =
    let args = c.args in
    (rw (eq-eqb args.b 82 c.if-b-eq82.true), omega arith)

returns-2 : tie.Need-returns-then-b-eq73
returns-2 c =
    let args = c.args in
    (rw (ne_eqb args.b 82 c.if-b-eq82.false, eq-eqb args.b 73 c.if-b-eq73.true), omega arith)

returns-3 : tie.Need-returns
returns-3 c =
    let args = c.args in
    (rw (ne_eqb args.b 82 c.if-b-eq82.false, ne_eqb args.b 73 c.if-b-eq73.false), omega arith)

pub slope_of_spec : {M : Type 1} → statement M
slope_of_spec =
    tie.close
    (tie.spec
    returns
    returns-2
    returns-3)
