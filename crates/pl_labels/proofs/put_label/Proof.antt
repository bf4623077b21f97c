-- `pl_labels::put_label` meets its contract: its parts one after the other.
-- Assumes nothing.
use Rattle.pl_labels.proofs.Labels.{three_put}
use borrow.Author.Rules.{rules}
use Rattle.pl_labels.proofs.put_label.Statement.{statement}
use Rattle.pl_labels.proofs.put_label.Tie as tie

put-bytes-requires : tie.Need-put_bytes-first-requires
put-bytes-requires c κs = search rules

put-char-requires : tie.Need-put_char-end-requires
put-char-requires c κs = search rules

put-bytes-requires-2 : tie.Need-put_bytes-requires
put-bytes-requires-2 c κs = search rules

same_length : tie.Need-shape_of-out
same_length c = search rules

returns : tie.Need-returns
returns c =
    three_put c.put_bytes-first.ensures c.put_char-end.ensures c.put_bytes.ensures

pub put_label_spec : {M : Type 1} → statement M
put_label_spec =
    tie.close
    (tie.spec
    put-bytes-requires
    put-char-requires
    put-bytes-requires-2
    same_length
    returns)
