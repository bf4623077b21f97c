-- `table_queries::is_separation_point` meets its contract: each return by the test that leads to it.
-- Assumes nothing.
use mathlib.Core.Path.{◌∙◌}
use Rattle.table_queries.proofs.Laws.{not_parted, parted}
use borrow.Author.Rules.{rules}
use Rattle.table_queries.proofs.is_separation_point.Statement.{statement}
use Rattle.table_queries.proofs.is_separation_point.Tie as tie

returns : tie.Need-returns-then-state-ne0
returns c = not_parted c.args.state c.if-state-ne0.true

is-no-ligature-requires : tie.Need-is_no_ligature-requires
is-no-ligature-requires c κs = search rules

returns-2 : tie.Need-returns
returns-2 c = c.is_no_ligature.ensures ∙ parted c.args.state c.if-state-ne0.false

pub is_separation_point_spec : {M : Type 1} → statement M
is_separation_point_spec =
    tie.close
    (tie.spec
    returns
    is-no-ligature-requires
    returns-2)
