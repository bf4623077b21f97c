-- `pl_values::bytes::weight_of` meets its contract.
-- Assumes nothing.
use borrow.Author.Tests.{eq-eqb, ne_eqb}
use native.Mathlib.Omega.{arith}
use Rattle.pl_values.proofs.bytes.weight_of.Statement.{statement}
use Rattle.pl_values.proofs.bytes.weight_of.Tie as tie

returns : tie.Need-returns-then-b-eq77
returns c =
    let args = c.args in
    (rw (eq-eqb args.b 77 c.if-b-eq77.true), omega arith)

returns-2 : tie.Need-returns-then-b-eq66
returns-2 c =
    let args = c.args in
    (rw (ne_eqb args.b 77 c.if-b-eq77.false, eq-eqb args.b 66 c.if-b-eq66.true), omega arith)

returns-3 : tie.Need-returns-then-b-eq76
returns-3 c =
    let args = c.args in
    (rw (ne_eqb args.b 77 c.if-b-eq77.false, ne_eqb args.b 66 c.if-b-eq66.false, eq-eqb args.b 76 c.if-b-eq76.true), omega arith)

returns-4 : tie.Need-returns
returns-4 c =
    let args = c.args in
    (rw (ne_eqb args.b 77 c.if-b-eq77.false, ne_eqb args.b 66 c.if-b-eq66.false, ne_eqb args.b 76 c.if-b-eq76.false), omega arith)

pub weight_of_spec : {M : Type 1} → statement M
weight_of_spec =
    tie.close
    (tie.spec
    returns
    returns-2
    returns-3
    returns-4)
