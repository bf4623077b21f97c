-- `pl_put::whole::put_whole` meets its contract: its digits one after the other.
-- Assumes nothing.
use Rattle.pl_put.proofs.Wholes.{whole_put}
use borrow.Author.Rules.{rules}
use Rattle.pl_put.proofs.whole.put_whole.Statement.{statement}
use Rattle.pl_put.proofs.whole.put_whole.Tie as tie

put-leading-requires : tie.Need-put_leading-second-requires
put-leading-requires c κs = search rules

put-leading-requires-2 : tie.Need-put_leading-third-requires
put-leading-requires-2 c κs = search rules

put-leading-requires-3 : tie.Need-put_leading-fourth-requires
put-leading-requires-3 c κs = search rules

put-leading-requires-4 : tie.Need-put_leading-last-requires
put-leading-requires-4 c κs = search rules

cast-put-byte : tie.Need-overflow_cast-n
cast-put-byte c = search rules

add-put-byte : tie.Need-overflow_add-n
add-put-byte c = search rules

put-byte-requires : tie.Need-put_byte-requires
put-byte-requires c κs = search rules

same_length : tie.Need-shape_of-out
same_length c = search rules

returns : tie.Need-returns
returns c =
    whole_put c.args.n c.put_leading-second.ensures c.put_leading-third.ensures c.put_leading-fourth.ensures
    c.put_leading-last.ensures c.put_byte.ensures

pub put_whole_spec : {M : Type 1} → statement M
put_whole_spec =
    tie.close
    (tie.spec
    put-leading-requires
    put-leading-requires-2
    put-leading-requires-3
    put-leading-requires-4
    cast-put-byte
    add-put-byte
    put-byte-requires
    same_length
    returns)
