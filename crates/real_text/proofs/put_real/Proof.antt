-- `real_text::put_real` meets its contract: a minus sign where the number is negative, and its size.
-- Assumes nothing.
use Rattle.real_text.proofs.Magnitudes.{positive_put, negative_put}
use borrow.Author.Rules.{rules}
use Rattle.real_text.proofs.put_real.Statement.{statement}
use Rattle.real_text.proofs.put_real.Tie as tie

put-magnitude-requires : tie.Need-put_magnitude-requires
put-magnitude-requires c κs = search rules

same_length : tie.Need-shape_of-out-then-w-lt2147483648
same_length c = search rules

returns : tie.Need-returns-then-w-lt2147483648
returns c =
    positive_put c.args.w c.if-w-lt2147483648.true c.put_magnitude.ensures

put-byte-requires : tie.Need-put_byte-first-requires
put-byte-requires c κs = search rules

sub-put-magnitude : tie.Need-overflow_sub-w
sub-put-magnitude c = search rules

add-put-magnitude : tie.Need-overflow_add-w
add-put-magnitude c = search rules

put-magnitude-requires-2 : tie.Need-put_magnitude-requires-2
put-magnitude-requires-2 c κs = search rules

same-length-2 : tie.Need-shape_of-out
same-length-2 c = search rules

returns-2 : tie.Need-returns
returns-2 c =
    negative_put c.args.w c.if-w-lt2147483648.false c.ranges.w.fits c.put_byte-first.ensures c.put_magnitude-2.ensures

pub put_real_spec : {M : Type 1} → statement M
put_real_spec =
    tie.close
    (tie.spec
    put-magnitude-requires
    same_length
    returns
    put-byte-requires
    sub-put-magnitude
    add-put-magnitude
    put-magnitude-requires-2
    same-length-2
    returns-2)
