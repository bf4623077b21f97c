-- `pl_bytes::upper_case` meets its contract.
-- Assumes nothing.
use borrow.Author.Tests.{lt-leb, le-leb}
use borrow.Author.Rules.{rules}
use Rattle.pl_bytes.proofs.upper_case.Statement.{statement}
use Rattle.pl_bytes.proofs.upper_case.Tie as tie

sub-result : tie.Need-overflow_sub-result
sub-result c = search rules

returns : tie.Need-returns-then-b-le122
returns c = let b = c.args.b in rw (le-leb 97 b c.if-b-ge97.true, le-leb b 122 c.if-b-le122.true)

returns-2 : tie.Need-returns-else-b-le122
returns-2 c = let b = c.args.b in rw (le-leb 97 b c.if-b-ge97.true, lt-leb b 122 c.if-b-le122.false)

returns-3 : tie.Need-returns-else-b-ge97
returns-3 c = rw (lt-leb 97 c.args.b c.if-b-ge97.false)

pub upper_case_spec : {M : Type 1} → statement M
upper_case_spec =
    tie.close
    (tie.spec
    sub-result
    returns
    returns-2
    returns-3)
