-- `repair_commit_refusals::commit_refusal` meets its contract: the first refusal that is not 0.
-- Assumes nothing.
use mathlib.Core.Path.{ap, ◌∙◌}
use Rattle.lang.proofs.Refusals.{first_refusal, later_refusal_lem}
use Rattle.repair_commit_refusals.specs.Numbers.{differ_refusal}
use borrow.Author.Rules.{rules}
use Rattle.repair_commit_refusals.proofs.commit_refusal.Statement.{statement}
use Rattle.repair_commit_refusals.proofs.commit_refusal.Tie as tie

lower-refusal-requires : tie.Need-lower_refusal-lower-requires
lower-refusal-requires c κs = search rules

count-of-requires : tie.Need-count_of-requires
count-of-requires c κs = search rules

differ-refusal-requires : tie.Need-differ_refusal-differ-requires
differ-refusal-requires c κs = search rules

returns : tie.Need-returns-then-lower-ne0
returns c = first_refusal _ c.lower_refusal-lower.ensures c.if-lower-ne0.true

returns-2 : tie.Need-returns-else-lower-ne0
returns-2 c =
    let a = c.args in
    later_refusal_lem c.lower_refusal-lower.ensures c.if-lower-ne0.false
    (c.differ_refusal-differ.ensures ∙ ap (differ_refusal a.handed.now a.found.now) c.count_of.ensures)

pub commit_refusal_spec : {M : Type 1} → statement M
commit_refusal_spec =
    tie.close
    (tie.spec
    lower-refusal-requires
    count-of-requires
    differ-refusal-requires
    returns
    returns-2)
