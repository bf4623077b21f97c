-- `repair_commit_refusals::differ_refusal` meets its contract: by how many numbers are handed over, and by the numbers.
-- Assumes nothing.
use mathlib.Core.Path.{sym, ◌∙◌}
use mathlib.Core.Bool.{true, false}
use Rattle.repair_commit_refusals.proofs.Comparing.{not_fours, other_count, by_numbers}
use borrow.Author.Rules.{rules}
use Rattle.repair_commit_refusals.proofs.differ_refusal.Statement.{statement}
use Rattle.repair_commit_refusals.proofs.differ_refusal.Tie as tie

returns : tie.Need-returns-then-handed-ne0
returns c = let a = c.args in not_fours a.handed.now a.found.now a.count c.if-handed-ne0.true

returns-2 : tie.Need-returns-then-handed-count
returns-2 c = let a = c.args in other_count a.handed.now a.found.now a.count c.if-handed-count.true

starts-with-requires : tie.Need-starts_with-requires
starts-with-requires c κs = search rules

returns-3 : tie.Need-returns-then-starts_with
returns-3 c =
    let a = c.args in
    by_numbers a.handed.now a.found.now a.count c.if-handed-ne0.false c.if-handed-count.false true (sym c.starts_with.ensures ∙ c.if-starts_with.true)

returns-4 : tie.Need-returns-else-starts_with
returns-4 c =
    let a = c.args in
    by_numbers a.handed.now a.found.now a.count c.if-handed-ne0.false c.if-handed-count.false false (sym c.starts_with.ensures ∙ c.if-starts_with.false)

pub differ_refusal_spec : {M : Type 1} → statement M
differ_refusal_spec =
    tie.close
    (tie.spec
    returns
    returns-2
    starts-with-requires
    returns-3
    returns-4)
