-- `read_change::rule_change` meets its contract.
-- Assumes nothing.
use Rattle.read_rule.specs.Meant.{meant}
use Rattle.read_change.proofs.Placing.{changes_as}
use borrow.Author.Rules.{rules}
use Rattle.read_change.proofs.rule_change.Statement.{statement}
use Rattle.read_change.proofs.rule_change.Tie as tie

retained-requires : tie.Need-retained-requires
retained-requires c κs = search rules

finished-requires : tie.Need-finished-requires
finished-requires c κs = search rules

returns : tie.Need-returns
returns c = λ x y.
    let a = c.args in
    changes_as (meant a.rule) a.boundary x y c.retained.result c.finished.result c.retained.ensures c.finished.ensures

pub rule_change_spec : {M : Type 1} → statement M
rule_change_spec =
    tie.close
    (tie.spec
    retained-requires
    finished-requires
    returns)
