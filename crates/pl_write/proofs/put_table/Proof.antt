-- `pl_write::put_table` meets its contract: nothing, or the list.
-- Assumes nothing.
use Rattle.pl_write.proofs.Whole.{no_table, table_put}
use borrow.Author.Rules.{rules}
use Rattle.pl_write.proofs.put_table.Statement.{statement}
use Rattle.pl_write.proofs.put_table.Tie as tie

add-smaller : tie.Need-overflow_add-out
add-smaller c = search rules

smaller-requires : tie.Need-min-requires
smaller-requires c κs = search rules

returns : tie.Need-returns-then-instructions-eq0
returns c =
    no_table c.args.instructions.now c.args.kerns.now c.args.table.now c.args.out.now c.args.at c.if-instructions-eq0.true
    c.min.ensures

put-bytes-requires : tie.Need-put_bytes-first-requires
put-bytes-requires c κs = search rules

put-steps-requires : tie.Need-put_steps-end-requires
put-steps-requires c κs = search rules

put-bytes-requires-2 : tie.Need-put_bytes-requires
put-bytes-requires-2 c κs = search rules

same_length : tie.Need-shape_of-out
same_length c = search rules

returns-2 : tie.Need-returns
returns-2 c =
    table_put c.args.instructions.now c.args.kerns.now c.args.table.now c.if-instructions-eq0.false c.put_bytes-first.ensures
    c.put_steps-end.ensures c.put_bytes.ensures

pub put_table_spec : {M : Type 1} → statement M
put_table_spec =
    tie.close
    (tie.spec
    add-smaller
    smaller-requires
    returns
    put-bytes-requires
    put-steps-requires
    put-bytes-requires-2
    same_length
    returns-2)
