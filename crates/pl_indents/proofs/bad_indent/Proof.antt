-- `pl_indents::bad_indent` meets its contract.
-- Assumes nothing.
use mathlib.Core.Path.{sym}
use borrow.Author.Tests.{lt-leb, le-leb}
use Rattle.pl_indents.proofs.Laws.{refused_to}
use native.Mathlib.Omega.{arith}
use Rattle.pl_indents.proofs.bad_indent.Statement.{statement}
use Rattle.pl_indents.proofs.bad_indent.Tie as tie

returns : tie.Need-returns-then-s-ge10
returns c =
    let args = c.args in
    refused_to (rw (le-leb 10 args.s.good c.if-s-ge10.true))

returns-2 : tie.Need-returns
returns-2 c =
    let args = c.args in
    record { is = sym (rw (lt-leb 10 args.s.good c.if-s-ge10.false)); few_blanks = omega arith; few_open = omega arith; few_good = omega arith }

pub bad_indent_spec : {M : Type 1} → statement M
bad_indent_spec =
    tie.close
    (tie.spec
    returns
    returns-2)
