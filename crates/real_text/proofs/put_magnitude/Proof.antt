-- `real_text::put_magnitude` meets its contract: the whole part, a point and the decimals.
-- Assumes nothing.
use Rattle.real_text.proofs.Magnitudes.{magnitude_put}
use borrow.Author.Rules.{rules}
use Rattle.real_text.proofs.put_magnitude.Statement.{statement}
use Rattle.real_text.proofs.put_magnitude.Tie as tie

put-whole-requires : tie.Need-put_whole-point-requires
put-whole-requires c κs = search rules

put-byte-requires : tie.Need-put_byte-first-requires
put-byte-requires c κs = search rules

put-fraction-requires : tie.Need-put_fraction-requires
put-fraction-requires c κs = search rules

same_length : tie.Need-shape_of-out
same_length c = search rules

returns : tie.Need-returns
returns c =
    magnitude_put c.args.n c.put_whole-point.ensures c.put_byte-first.ensures c.put_fraction.ensures

pub put_magnitude_spec : {M : Type 1} → statement M
put_magnitude_spec =
    tie.close
    (tie.spec
    put-whole-requires
    put-byte-requires
    put-fraction-requires
    same_length
    returns)
