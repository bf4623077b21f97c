-- `point_print::put_leading` meets its contract: nothing, or one byte.
-- Assumes nothing.
use Rattle.point_print.proofs.Putting.{leading_none, leading_one}
use borrow.Author.Rules.{rules}
use Rattle.point_print.proofs.put_leading.Statement.{statement}
use Rattle.point_print.proofs.put_leading.Tie as tie

returns : tie.Need-returns-then-n-eq0
returns c = let a = c.args in leading_none a.out.now a.at a.n c.if-n-eq0.true

cast-put-u8 : tie.Need-overflow_cast-n
cast-put-u8 c = search rules

add-put-u8 : tie.Need-overflow_add-n
add-put-u8 c = search rules

put-item-requires : tie.Need-put_item-requires
put-item-requires c κs = search rules

add-result : tie.Need-overflow_add-result
add-result c = search rules

same_length : tie.Need-shape_of-out
same_length c = search rules

returns-2 : tie.Need-returns
returns-2 c =
    let a = c.args in
    leading_one a.out.now a.at a.n c.if-n-eq0.false c.put_item.ensures

pub put_leading_spec : {M : Type 1} → statement M
put_leading_spec =
    tie.close
    (tie.spec
    returns
    cast-put-u8
    add-put-u8
    put-item-requires
    add-result
    same_length
    returns-2)
