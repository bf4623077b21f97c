-- `program_records::steps::searches_on` meets its contract: past the last record it is false, else that the record can't be the rule. Assumes nothing.
use mathlib.Core.Path.{ap}
use mathlib.Core.Bool.{Bool, not}
use native.Mathlib.Omega.{arith}
use borrow.Author.Rules.{rules}
use borrow.Author.Tests.{lt-ltb, le-ltb}
use Rattle.program_records.proofs.steps.searches_on.Statement.{statement}
use Rattle.program_records.proofs.steps.searches_on.Tie as tie

returns : tie.Need-returns-then-n-at
returns c = rw (le-ltb c.args.at c.args.n (omega arith))

is-rule-for-requires : tie.Need-is_rule_for-requires
is-rule-for-requires c κs = search rules

returns-2 : tie.Need-returns
returns-2 c =
    rw (lt-ltb c.args.at c.args.n c.if-n-at.false) (ap (λ (b : Bool). not b) c.is_rule_for.ensures)

pub searches_on_spec : {M : Type 1} → statement M
searches_on_spec =
    tie.close
    (tie.spec
    returns
    is-rule-for-requires
    returns-2)
