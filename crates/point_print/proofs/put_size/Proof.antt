-- `point_print::put_size` meets its contract: whole points, a point, and decimals.
-- Assumes nothing.
use Rattle.point_print.proofs.Putting.{puts_size}
use borrow.Author.Rules.{rules}
use Rattle.point_print.proofs.put_size.Statement.{statement}
use Rattle.point_print.proofs.put_size.Tie as tie

put-whole-requires : tie.Need-put_whole-point-requires
put-whole-requires c κs = search rules

put-item-requires : tie.Need-put_item-requires
put-item-requires c κs = search rules

add-put-decimals : tie.Need-overflow_add-point
add-put-decimals c = search rules

put-decimals-requires : tie.Need-put_decimals-requires
put-decimals-requires c κs = search rules

same_length : tie.Need-shape_of-out
same_length c = search rules

returns : tie.Need-returns
returns c =
    puts_size c.args.n c.put_whole-point.ensures.0 c.put_item.ensures c.put_decimals.ensures

pub put_size_spec : {M : Type 1} → statement M
put_size_spec =
    tie.close
    (tie.spec
    put-whole-requires
    put-item-requires
    add-put-decimals
    put-decimals-requires
    same_length
    returns)
