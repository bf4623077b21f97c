-- `pl_write::labels::put_labels` meets its contract: the left boundary's label first.
-- Assumes nothing.
use Rattle.pl_write.proofs.Tables.{labels_both, labels_chars}
use borrow.Author.Rules.{rules}
use Rattle.pl_write.proofs.labels.put_labels.Statement.{statement}
use Rattle.pl_write.proofs.labels.put_labels.Tie as tie

entry-at-requires : tie.Need-entry_at-requires
entry-at-requires c κs = search rules

cast-if1 : tie.Need-overflow_cast-entry_at
cast-if1 c = search rules

put-boundary-label-requires : tie.Need-put_boundary_label-next-requires
put-boundary-label-requires c κs = search rules

put-chars-requires : tie.Need-put_chars-requires
put-chars-requires c κs = search rules

same_length : tie.Need-shape_of-out-then-entry_at-i
same_length c = search rules

returns : tie.Need-returns-then-entry_at-i
returns c =
    labels_both c.args.table.now c.args.i c.entry_at.ensures c.if-entry_at-i.true c.put_boundary_label-next.ensures
    c.put_chars.ensures

put-chars-requires-2 : tie.Need-put_chars-requires-2
put-chars-requires-2 c κs = search rules

same-length-2 : tie.Need-shape_of-out
same-length-2 c = search rules

returns-2 : tie.Need-returns
returns-2 c =
    labels_chars c.args.table.now c.args.i c.entry_at.ensures c.if-entry_at-i.false c.put_chars-2.ensures

pub put_labels_spec : {M : Type 1} → statement M
put_labels_spec =
    tie.close
    (tie.spec
    entry-at-requires
    cast-if1
    put-boundary-label-requires
    put-chars-requires
    same_length
    returns
    put-chars-requires-2
    same-length-2
    returns-2)
