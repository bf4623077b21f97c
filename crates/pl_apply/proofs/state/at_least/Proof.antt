-- `pl_apply::state::at_least` meets its contract.
-- Assumes nothing.
use borrow.Author.Tests.{lt-leb, le-leb}
use borrow.Author.Rules.{rules}
use Rattle.pl_apply.proofs.state.at_least.Statement.{statement}
use Rattle.pl_apply.proofs.state.at_least.Tie as tie

add-result : tie.Need-overflow_add-result
add-result c = search rules

returns : tie.Need-returns-then-needed-n
returns c =
    let args = c.args in
    rw (le-leb args.needed args.n c.if-needed-n.true)

returns-2 : tie.Need-returns-else-needed-n
returns-2 c =
    let args = c.args in
    rw (lt-leb args.needed args.n c.if-needed-n.false)

pub at_least_spec : {M : Type 1} → statement M
at_least_spec =
    tie.close
    (tie.spec
    add-result
    returns
    returns-2)
