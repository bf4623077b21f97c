-- `program_records::steps::rule_at` meets its contract, by the test of the index.
-- Assumes nothing.
use native.Mathlib.Omega.{arith}
use borrow.Author.Tests.{lt-ltb, le-ltb}
use Rattle.program_records.proofs.steps.rule_at.Statement.{statement}
use Rattle.program_records.proofs.steps.rule_at.Tie as tie

returns : tie.Need-returns-then-at-n
returns c = rw (lt-ltb c.args.at c.args.n (omega arith))

returns-2 : tie.Need-returns
returns-2 c = rw (le-ltb c.args.at c.args.n (omega arith))

pub rule_at_spec : {M : Type 1} → statement M
rule_at_spec =
    tie.close
    (tie.spec
    returns
    returns-2)
