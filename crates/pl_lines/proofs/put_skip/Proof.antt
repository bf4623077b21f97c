-- `pl_lines::put_skip` meets its contract: its parts one after the other.
-- Assumes nothing.
use Rattle.pl_lines.proofs.Lines.{skip_put}
use borrow.Author.Rules.{rules}
use Rattle.pl_lines.proofs.put_skip.Statement.{statement}
use Rattle.pl_lines.proofs.put_skip.Tie as tie

put-bytes-requires : tie.Need-put_bytes-first-requires
put-bytes-requires c κs = search rules

put-whole-requires : tie.Need-put_whole-end-requires
put-whole-requires c κs = search rules

put-bytes-requires-2 : tie.Need-put_bytes-requires
put-bytes-requires-2 c κs = search rules

same_length : tie.Need-shape_of-out
same_length c = search rules

returns : tie.Need-returns
returns c =
    skip_put c.args.n c.requires.0 c.requires.1 c.put_bytes-first.ensures c.put_whole-end.ensures c.put_bytes.ensures

pub put_skip_spec : {M : Type 1} → statement M
put_skip_spec =
    tie.close
    (tie.spec
    put-bytes-requires
    put-whole-requires
    put-bytes-requires-2
    same_length
    returns)
