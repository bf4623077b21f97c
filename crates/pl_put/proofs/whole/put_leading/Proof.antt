-- `pl_put::whole::put_leading` meets its contract: nothing, or one byte.
-- Assumes nothing.
use Rattle.pl_put.proofs.Wholes.{leading_none, leading_one}
use borrow.Author.Rules.{rules}
use Rattle.pl_put.proofs.whole.put_leading.Statement.{statement}
use Rattle.pl_put.proofs.whole.put_leading.Tie as tie

add-smaller : tie.Need-overflow_add-out
add-smaller c = search rules

smaller-requires : tie.Need-min-requires
smaller-requires c κs = search rules

returns : tie.Need-returns-then-n-eq0
returns c =
    leading_none c.args.out.now c.args.at c.args.n c.if-n-eq0.true c.min.ensures

cast-put-byte : tie.Need-overflow_cast-n
cast-put-byte c = search rules

add-put-byte : tie.Need-overflow_add-n
add-put-byte c = search rules

put-byte-requires : tie.Need-put_byte-requires
put-byte-requires c κs = search rules

same_length : tie.Need-shape_of-out
same_length c = search rules

returns-2 : tie.Need-returns
returns-2 c =
    leading_one c.args.n c.if-n-eq0.false c.put_byte.ensures

pub put_leading_spec : {M : Type 1} → statement M
put_leading_spec =
    tie.close
    (tie.spec
    add-smaller
    smaller-requires
    returns
    cast-put-byte
    add-put-byte
    put-byte-requires
    same_length
    returns-2)
