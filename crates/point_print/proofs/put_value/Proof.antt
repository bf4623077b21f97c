-- `point_print::put_value` meets its contract: a minus sign where the number is negative, and its size.
-- Assumes nothing.
use Rattle.point_print.proofs.Putting.{puts_positive, puts_negative}
use borrow.Author.Rules.{rules}
use Rattle.point_print.proofs.put_value.Statement.{statement}
use Rattle.point_print.proofs.put_value.Tie as tie

put-size-requires : tie.Need-put_size-requires
put-size-requires c κs = search rules

same_length : tie.Need-shape_of-out-then-w-lt2147483648
same_length c = search rules

returns : tie.Need-returns-then-w-lt2147483648
returns c =
    puts_positive c.args.w c.if-w-lt2147483648.true c.put_size.ensures

put-item-requires : tie.Need-put_item-requires
put-item-requires c κs = search rules

sub-put-size : tie.Need-overflow_sub-w
sub-put-size c = search rules

add-put-size : tie.Need-overflow_add-w
add-put-size c = search rules

put-size-requires-2 : tie.Need-put_size-requires-2
put-size-requires-2 c κs = search rules

same-length-2 : tie.Need-shape_of-out
same-length-2 c = search rules

returns-2 : tie.Need-returns
returns-2 c =
    puts_negative c.args.w c.if-w-lt2147483648.false c.ranges.w.fits c.put_item.ensures c.put_size-2.ensures

pub put_value_spec : {M : Type 1} → statement M
put_value_spec =
    tie.close
    (tie.spec
    put-size-requires
    same_length
    returns
    put-item-requires
    sub-put-size
    add-put-size
    put-size-requires-2
    same-length-2
    returns-2)
