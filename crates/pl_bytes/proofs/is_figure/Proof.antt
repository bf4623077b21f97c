-- `pl_bytes::is_figure` meets its contract.
-- Assumes nothing.
use borrow.Author.Tests.{lt-leb, le-leb}
use Rattle.pl_bytes.proofs.is_figure.Statement.{statement}
use Rattle.pl_bytes.proofs.is_figure.Tie as tie

returns : tie.Need-returns-then-b-lt48
returns c = rw (lt-leb 48 c.args.b c.if-b-lt48.true)

returns-2 : tie.Need-returns
returns-2 c = rw (le-leb 48 c.args.b c.if-b-lt48.false)

pub is_figure_spec : {M : Type 1} → statement M
is_figure_spec =
    tie.close
    (tie.spec
    returns
    returns-2)
