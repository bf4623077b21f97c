-- `pl_lines::put_name` meets its contract: its parts one after the other.
-- Assumes nothing.
use Rattle.pl_lines.proofs.Lines.{name_put}
use borrow.Author.Rules.{rules}
use Rattle.pl_lines.proofs.put_name.Statement.{statement}
use Rattle.pl_lines.proofs.put_name.Tie as tie

put-repeated-requires : tie.Need-put_repeated-first-requires
put-repeated-requires c κs = search rules

put-bytes-requires : tie.Need-put_bytes-second-requires
put-bytes-requires c κs = search rules

put-repeated-requires-2 : tie.Need-put_repeated-third-requires
put-repeated-requires-2 c κs = search rules

put-repeated-requires-3 : tie.Need-put_repeated-requires
put-repeated-requires-3 c κs = search rules

same_length : tie.Need-shape_of-out
same_length c = search rules

returns : tie.Need-returns
returns c =
    name_put c.args.op c.put_repeated-first.ensures c.put_bytes-second.ensures c.put_repeated-third.ensures c.put_repeated.ensures

pub put_name_spec : {M : Type 1} → statement M
put_name_spec =
    tie.close
    (tie.spec
    put-repeated-requires
    put-bytes-requires
    put-repeated-requires-2
    put-repeated-requires-3
    same_length
    returns)
