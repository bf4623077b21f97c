-- `pl_progress::may_label` meets its contract.
-- Assumes nothing.
use borrow.Author.Tests.{lt-ltb, le-ltb, eq-eqb, ne_eqb}
use borrow.Author.Rules.{rules}
use Rattle.pl_progress.proofs.may_label.Statement.{statement}
use Rattle.pl_progress.proofs.may_label.Tie as tie

returns : tie.Need-returns-then-s-ne2
returns c =
    let args = c.args in
    rw (ne_eqb args.s.stage 2 c.if-s-ne2.true)

returns-2 : tie.Need-returns-then-c-ge256
returns-2 c =
    let args = c.args in
    rw (eq-eqb args.s.stage 2 c.if-s-ne2.false, le-ltb args.c 256 c.if-c-ge256.true)

has-label-requires : tie.Need-has_label-requires
has-label-requires c κs = search rules

returns-3 : tie.Need-returns
returns-3 c =
    let args = c.args in
    rw (eq-eqb args.s.stage 2 c.if-s-ne2.false, lt-ltb args.c 256 c.if-c-ge256.false, c.has_label.ensures)

pub may_label_spec : {M : Type 1} → statement M
may_label_spec =
    tie.close
    (tie.spec
    returns
    returns-2
    has-label-requires
    returns-3)
