-- `pl_indents::line_starts` meets its contract.
-- Assumes nothing.
use mathlib.Core.Path.{sym}
use Prim.Native.Nat.{◌/◌, ◌%◌}
use borrow.Author.Tests.{eq-eqb, ne_eqb}
use Rattle.pl_indents.proofs.Laws.{at_most}
use borrow.Author.Rules.{rules}
use native.Mathlib.Omega.{arith}
use Rattle.pl_indents.proofs.line_starts.Statement.{statement}
use Rattle.pl_indents.proofs.line_starts.Tie as tie

add-with-lines : tie.Need-overflow_add-s
add-with-lines c = search rules

with-lines-requires : tie.Need-with_lines-requires
with-lines-requires c κs = search rules

returns : tie.Need-returns-then-s-eq0-2
returns c =
    let args = c.args in
    at_most c.with_lines.result c.with_lines.ensures (sym (rw (eq-eqb args.s.level 0 c.if-s-eq0.true, eq-eqb args.s.blanks 0 c.if-s-eq0-2.true))) (omega arith) (omega arith) (omega arith)

bad-indent-requires : tie.Need-bad_indent-requires
bad-indent-requires c κs = search rules

returns-2 : tie.Need-returns-then-s-eq0
returns-2 c =
    let args = c.args in
    at_most c.bad_indent.result c.bad_indent.ensures (sym (rw (eq-eqb args.s.level 0 c.if-s-eq0.true, ne_eqb args.s.blanks 0 c.if-s-eq0-2.false))) (omega arith) (omega arith) (omega arith)

rem-rest : tie.Need-nonzero_rem-rest
rem-rest c = search rules

div-each : tie.Need-nonzero_div-each
div-each c = search rules

with-lines-requires-2 : tie.Need-with_lines-requires-then-rest-eq0
with-lines-requires-2 c κs = search rules

returns-3 : tie.Need-returns-then-rest-eq0
returns-3 c =
    let args = c.args in
    at_most c.with_lines-then-rest-eq0.result c.with_lines-then-rest-eq0.ensures (sym (rw (ne_eqb args.s.level 0 c.if-s-eq0.false, eq-eqb args.s.indent 0 c.if-s-eq0-3.true, eq-eqb (args.s.blanks % args.s.level) 0 c.if-rest-eq0.true))) (omega arith) (omega arith) (omega arith)

with-lines-requires-3 : tie.Need-with_lines-requires-then-s-eq0-3
with-lines-requires-3 c κs = search rules

returns-4 : tie.Need-returns-then-s-eq0-3
returns-4 c =
    let args = c.args in
    at_most c.with_lines-then-s-eq0-3.result c.with_lines-then-s-eq0-3.ensures (sym (rw (ne_eqb args.s.level 0 c.if-s-eq0.false, eq-eqb args.s.indent 0 c.if-s-eq0-3.true, ne_eqb (args.s.blanks % args.s.level) 0 c.if-rest-eq0.false))) (omega arith) (omega arith) (omega arith)

bad-indent-requires-2 : tie.Need-bad_indent-requires-then-rest-ne0
bad-indent-requires-2 c κs = search rules

returns-5 : tie.Need-returns-then-rest-ne0
returns-5 c =
    let args = c.args in
    at_most c.bad_indent-then-rest-ne0.result c.bad_indent-then-rest-ne0.ensures (sym (rw (ne_eqb args.s.level 0 c.if-s-eq0.false, ne_eqb args.s.indent 0 c.if-s-eq0-3.false, ne_eqb (args.s.blanks % args.s.level) 0 c.if-rest-ne0.true))) (omega arith) (omega arith) (omega arith)

bad-indent-requires-3 : tie.Need-bad_indent-requires-then-each-s
bad-indent-requires-3 c κs = search rules

returns-6 : tie.Need-returns-then-each-s
returns-6 c =
    let args = c.args in
    at_most c.bad_indent-then-each-s.result c.bad_indent-then-each-s.ensures (sym (rw (ne_eqb args.s.level 0 c.if-s-eq0.false, ne_eqb args.s.indent 0 c.if-s-eq0-3.false, eq-eqb (args.s.blanks % args.s.level) 0 c.if-rest-ne0.false, ne_eqb (args.s.blanks / args.s.level) args.s.indent c.if-each-s.true))) (omega arith) (omega arith) (omega arith)

add-with-lines-2 : tie.Need-overflow_add-s-2
add-with-lines-2 c = search rules

with-lines-requires-4 : tie.Need-with_lines-requires-2
with-lines-requires-4 c κs = search rules

returns-7 : tie.Need-returns
returns-7 c =
    let args = c.args in
    at_most c.with_lines-2.result c.with_lines-2.ensures (sym (rw (ne_eqb args.s.level 0 c.if-s-eq0.false, ne_eqb args.s.indent 0 c.if-s-eq0-3.false, eq-eqb (args.s.blanks % args.s.level) 0 c.if-rest-ne0.false, eq-eqb (args.s.blanks / args.s.level) args.s.indent c.if-each-s.false))) (omega arith) (omega arith) (omega arith)

pub line_starts_spec : {M : Type 1} → statement M
line_starts_spec =
    tie.close
    (tie.spec
    add-with-lines
    with-lines-requires
    returns
    bad-indent-requires
    returns-2
    rem-rest
    div-each
    with-lines-requires-2
    returns-3
    with-lines-requires-3
    returns-4
    bad-indent-requires-2
    returns-5
    bad-indent-requires-3
    returns-6
    add-with-lines-2
    with-lines-requires-4
    returns-7)
