-- `pl_write::put_display` meets its contract: the boundary character, then LIGTABLE.
-- Assumes nothing.
use Rattle.pl_write.proofs.Whole.{display_put}
use borrow.Author.Rules.{rules}
use Rattle.pl_write.proofs.put_display.Statement.{statement}
use Rattle.pl_write.proofs.put_display.Tie as tie

entries-table-requires : tie.Need-entries_table-table-requires
entries-table-requires c κs = search rules

word-of-requires : tie.Need-word_of-requires
word-of-requires c κs = search rules

put-boundary-requires : tie.Need-put_boundary-next-requires
put-boundary-requires c κs = search rules

put-table-requires : tie.Need-put_table-requires
put-table-requires c κs = search rules

same_length : tie.Need-shape_of-out
same_length c = search rules

returns : tie.Need-returns
returns c =
    display_put c.args.instructions.now c.args.kerns.now c.args.entries.now c.entries_table-table.result c.ranges.boundary
    c.ranges.left_entry c.entries_table-table.ensures c.word_of.ensures c.put_boundary-next.ensures c.put_table.ensures

pub put_display_spec : {M : Type 1} → statement M
put_display_spec =
    tie.close
    (tie.spec
    entries-table-requires
    word-of-requires
    put-boundary-requires
    put-table-requires
    same_length
    returns)
