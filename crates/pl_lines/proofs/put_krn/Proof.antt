-- `pl_lines::put_krn` meets its contract: its parts one after the other.
-- Assumes nothing.
use Rattle.pl_lines.proofs.Lines.{krn_put}
use borrow.Author.Rules.{rules}
use Rattle.pl_lines.proofs.put_krn.Statement.{statement}
use Rattle.pl_lines.proofs.put_krn.Tie as tie

put-bytes-requires : tie.Need-put_bytes-first-requires
put-bytes-requires c κs = search rules

put-char-requires : tie.Need-put_char-second-requires
put-char-requires c κs = search rules

put-bytes-requires-2 : tie.Need-put_bytes-real-requires
put-bytes-requires-2 c κs = search rules

put-real-requires : tie.Need-put_real-end-requires
put-real-requires c κs = search rules

put-bytes-requires-3 : tie.Need-put_bytes-requires
put-bytes-requires-3 c κs = search rules

same_length : tie.Need-shape_of-out
same_length c = search rules

returns : tie.Need-returns
returns c =
    krn_put c.args.right c.args.kern c.put_bytes-first.ensures c.put_char-second.ensures c.put_bytes-real.ensures c.put_real-end.ensures
    c.put_bytes.ensures

pub put_krn_spec : {M : Type 1} → statement M
put_krn_spec =
    tie.close
    (tie.spec
    put-bytes-requires
    put-char-requires
    put-bytes-requires-2
    put-real-requires
    put-bytes-requires-3
    same_length
    returns)
