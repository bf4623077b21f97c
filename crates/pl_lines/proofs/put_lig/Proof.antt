-- `pl_lines::put_lig` meets its contract: its parts one after the other.
-- Assumes nothing.
use Rattle.pl_lines.proofs.Lines.{lig_put}
use borrow.Author.Rules.{rules}
use Rattle.pl_lines.proofs.put_lig.Statement.{statement}
use Rattle.pl_lines.proofs.put_lig.Tie as tie

put-bytes-requires : tie.Need-put_bytes-name-requires
put-bytes-requires c κs = search rules

put-name-requires : tie.Need-put_name-first-requires
put-name-requires c κs = search rules

put-char-requires : tie.Need-put_char-second-requires
put-char-requires c κs = search rules

put-char-requires-2 : tie.Need-put_char-end-requires
put-char-requires-2 c κs = search rules

put-bytes-requires-2 : tie.Need-put_bytes-requires
put-bytes-requires-2 c κs = search rules

same_length : tie.Need-shape_of-out
same_length c = search rules

returns : tie.Need-returns
returns c =
    lig_put c.args.op c.args.right c.args.inserted c.put_bytes-name.ensures c.put_name-first.ensures c.put_char-second.ensures
    c.put_char-end.ensures
    c.put_bytes.ensures

pub put_lig_spec : {M : Type 1} → statement M
put_lig_spec =
    tie.close
    (tie.spec
    put-bytes-requires
    put-name-requires
    put-char-requires
    put-char-requires-2
    put-bytes-requires-2
    same_length
    returns)
