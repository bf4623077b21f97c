-- `pl_indents::after_byte` meets its contract.
-- Assumes nothing.
use mathlib.Core.Path.{sym}
use borrow.Author.Tests.{eq-eqb, ne_eqb}
use Rattle.pl_indents.proofs.Laws.{at_most}
use borrow.Author.Rules.{rules}
use native.Mathlib.Omega.{arith}
use Rattle.pl_indents.proofs.after_byte.Statement.{statement}
use Rattle.pl_indents.proofs.after_byte.Tie as tie

at-start-requires : tie.Need-at_start-requires
at-start-requires c κs = search rules

returns : tie.Need-returns-then-b-eq10
returns c =
    let args = c.args in
    at_most c.at_start.result c.at_start.ensures (sym (rw (eq-eqb args.b 10 c.if-b-eq10.true))) (omega arith) (omega arith) (omega arith)

inside-line-requires : tie.Need-inside_line-requires
inside-line-requires c κs = search rules

returns-2 : tie.Need-returns-then-s-eq1
returns-2 c =
    let args = c.args in
    at_most c.inside_line.result c.inside_line.ensures (sym (rw (ne_eqb args.b 10 c.if-b-eq10.false, eq-eqb args.s.mode 1 c.if-s-eq1.true))) (omega arith) (omega arith) (omega arith)

at-start-requires-2 : tie.Need-at_start-requires-then-b-eq13
at-start-requires-2 c κs = search rules

returns-3 : tie.Need-returns-then-b-eq13
returns-3 c =
    let args = c.args in
    at_most c.at_start-then-b-eq13.result c.at_start-then-b-eq13.ensures (sym (rw (ne_eqb args.b 10 c.if-b-eq10.false, ne_eqb args.s.mode 1 c.if-s-eq1.false, eq-eqb args.b 13 c.if-b-eq13.true))) (omega arith) (omega arith) (omega arith)

first-byte-requires : tie.Need-first_byte-requires
first-byte-requires c κs = search rules

returns-4 : tie.Need-returns-then-b-ne32
returns-4 c =
    let args = c.args in
    at_most c.first_byte.result c.first_byte.ensures (sym (rw (ne_eqb args.b 10 c.if-b-eq10.false, ne_eqb args.s.mode 1 c.if-s-eq1.false, ne_eqb args.b 13 c.if-b-eq13.false, ne_eqb args.b 32 c.if-b-ne32.true))) (omega arith) (omega arith) (omega arith)

first-byte-requires-2 : tie.Need-first_byte-requires-then-s-ne0
first-byte-requires-2 c κs = search rules

returns-5 : tie.Need-returns-then-s-ne0
returns-5 c =
    let args = c.args in
    at_most c.first_byte-then-s-ne0.result c.first_byte-then-s-ne0.ensures (sym (rw (ne_eqb args.b 10 c.if-b-eq10.false, ne_eqb args.s.mode 1 c.if-s-eq1.false, ne_eqb args.b 13 c.if-b-eq13.false, eq-eqb args.b 32 c.if-b-ne32.false, ne_eqb args.s.mode 0 c.if-s-ne0.true))) (omega arith) (omega arith) (omega arith)

add-at-start : tie.Need-overflow_add-s
add-at-start c = search rules

at-start-requires-3 : tie.Need-at_start-requires-2
at-start-requires-3 c κs = search rules

returns-6 : tie.Need-returns
returns-6 c =
    let args = c.args in
    at_most c.at_start-2.result c.at_start-2.ensures (sym (rw (ne_eqb args.b 10 c.if-b-eq10.false, ne_eqb args.s.mode 1 c.if-s-eq1.false, ne_eqb args.b 13 c.if-b-eq13.false, eq-eqb args.b 32 c.if-b-ne32.false, eq-eqb args.s.mode 0 c.if-s-ne0.false))) (omega arith) (omega arith) (omega arith)

pub after_byte_spec : {M : Type 1} → statement M
after_byte_spec =
    tie.close
    (tie.spec
    at-start-requires
    returns
    inside-line-requires
    returns-2
    at-start-requires-2
    returns-3
    first-byte-requires
    returns-4
    first-byte-requires-2
    returns-5
    add-at-start
    at-start-requires-3
    returns-6)
