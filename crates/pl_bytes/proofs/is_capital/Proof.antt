-- `pl_bytes::is_capital` meets its contract.
-- Assumes nothing.
use borrow.Author.Tests.{lt-leb, le-leb}
use Rattle.pl_bytes.proofs.is_capital.Statement.{statement}
use Rattle.pl_bytes.proofs.is_capital.Tie as tie

returns : tie.Need-returns-then-b-lt65
returns c = rw (lt-leb 65 c.args.b c.if-b-lt65.true)

returns-2 : tie.Need-returns
returns-2 c = rw (le-leb 65 c.args.b c.if-b-lt65.false)

pub is_capital_spec : {M : Type 1} → statement M
is_capital_spec =
    tie.close
    (tie.spec
    returns
    returns-2)
