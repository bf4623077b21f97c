-- `caption_run::begin::late_refusal` meets its contract: the table's number, or else the one handed over.
-- Assumes nothing.
use mathlib.Core.Path.{refl}
use Rattle.lang.proofs.Refusals.{first_refusal, later_refusal_lem}
use borrow.Author.Rules.{rules}
use Rattle.caption_run.proofs.begin.late_refusal.Statement.{statement}
use Rattle.caption_run.proofs.begin.late_refusal.Tie as tie

table-refusal-requires : tie.Need-table_refusal-table-requires
table-refusal-requires c κs = search rules

returns : tie.Need-returns-then-table-ne0
returns c = first_refusal _ c.table_refusal-table.ensures c.if-table-ne0.true

returns-2 : tie.Need-returns
returns-2 c = later_refusal_lem c.table_refusal-table.ensures c.if-table-ne0.false refl

pub late_refusal_spec : {M : Type 1} → statement M
late_refusal_spec =
    tie.close
    (tie.spec
    table-refusal-requires
    returns
    returns-2)
