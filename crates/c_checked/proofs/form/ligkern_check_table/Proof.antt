-- `c_checked::form::ligkern_check_table` meets its contract: it is table_refusal.
-- Assumes nothing.
use borrow.Author.Rules.{rules}
use Rattle.c_checked.proofs.form.ligkern_check_table.Statement.{statement}
use Rattle.c_checked.proofs.form.ligkern_check_table.Tie as tie

table-refusal-requires : tie.Need-table_refusal-requires
table-refusal-requires c κs = search rules

returns : tie.Need-returns
returns c = c.table_refusal.ensures

pub ligkern_check_table_spec : {M : Type 1} → statement M
ligkern_check_table_spec =
    tie.close
    (tie.spec
    table-refusal-requires
    returns)
