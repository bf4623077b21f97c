-- `point_print::put_whole` meets its contract: its digits one after the other.
-- Assumes nothing.
use native.Mathlib.Omega.{arith}
use Rattle.point_print.proofs.Putting.{puts_whole}
use borrow.Author.Rules.{rules}
use Rattle.point_print.proofs.put_whole.Statement.{statement}
use Rattle.point_print.proofs.put_whole.Tie as tie

put-leading-requires : tie.Need-put_leading-second-requires
put-leading-requires c κs = search rules

put-leading-requires-2 : tie.Need-put_leading-third-requires
put-leading-requires-2 c κs = search rules

put-leading-requires-3 : tie.Need-put_leading-fourth-requires
put-leading-requires-3 c κs = search rules

put-leading-requires-4 : tie.Need-put_leading-last-requires
put-leading-requires-4 c κs = search rules

cast-put-u8 : tie.Need-overflow_cast-n
cast-put-u8 c = search rules

add-put-u8 : tie.Need-overflow_add-n
add-put-u8 c = search rules

put-item-requires : tie.Need-put_item-requires
put-item-requires c κs = search rules

add-result : tie.Need-overflow_add-result
add-result c = search rules

same_length : tie.Need-shape_of-out
same_length c = search rules

returns : tie.Need-returns
returns c =
    let a = c.args in (
      puts_whole a.n c.put_leading-second.ensures.0 c.put_leading-third.ensures.0 c.put_leading-fourth.ensures.0 c.put_leading-last.ensures.0
          c.put_item.ensures,
      omega arith,
    )

pub put_whole_spec : {M : Type 1} → statement M
put_whole_spec =
    tie.close
    (tie.spec
    put-leading-requires
    put-leading-requires-2
    put-leading-requires-3
    put-leading-requires-4
    cast-put-u8
    add-put-u8
    put-item-requires
    add-result
    same_length
    returns)
