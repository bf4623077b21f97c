-- `step_quick_op::is_ready` meets its contract, by whether there is an entry.
-- Assumes nothing.
use borrow.Author.Tests.{lt-ltb, le-ltb}
use Rattle.captions.specs.Tables.{pair_count}
use borrow.Author.Rules.{rules}
use Rattle.step_quick_op.proofs.is_ready.Statement.{statement}
use Rattle.step_quick_op.proofs.is_ready.Tie as tie

returns : tie.Need-returns-then-pairs-k
returns c = let a = c.args in rw (le-ltb a.k (pair_count a.pairs.now) c.if-pairs-k.true)

is-entered-requires : tie.Need-is_entered-requires
is-entered-requires c κs = search rules

returns-2 : tie.Need-returns
returns-2 c = let a = c.args in rw (lt-ltb a.k (pair_count a.pairs.now) c.if-pairs-k.false) c.is_entered.ensures

pub is_ready_spec : {M : Type 1} → statement M
is_ready_spec =
    tie.close
    (tie.spec
    returns
    is-entered-requires
    returns-2)
