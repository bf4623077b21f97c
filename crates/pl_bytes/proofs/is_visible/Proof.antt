-- `pl_bytes::is_visible` meets its contract.
-- Assumes nothing.
use borrow.Author.Tests.{lt-leb, le-leb, eq-eqb, ne_eqb}
use Rattle.pl_bytes.proofs.is_visible.Statement.{statement}
use Rattle.pl_bytes.proofs.is_visible.Tie as tie

returns : tie.Need-returns-then-b-lt33
returns c = rw (lt-leb 33 c.args.b c.if-b-lt33.true)

returns-2 : tie.Need-returns-then-b-gt126
returns-2 c = let b = c.args.b in rw (le-leb 33 b c.if-b-lt33.false, lt-leb b 126 c.if-b-gt126.true)

returns-3 : tie.Need-returns-then-b-eq40
returns-3 c =
    let b = c.args.b in
    rw (le-leb 33 b c.if-b-lt33.false, le-leb b 126 c.if-b-gt126.false, eq-eqb b 40 c.if-b-eq40.true)

returns-4 : tie.Need-returns
returns-4 c =
    let b = c.args.b in
    rw (le-leb 33 b c.if-b-lt33.false, le-leb b 126 c.if-b-gt126.false, ne_eqb b 40 c.if-b-eq40.false)

pub is_visible_spec : {M : Type 1} → statement M
is_visible_spec =
    tie.close
    (tie.spec
    returns
    returns-2
    returns-3
    returns-4)
