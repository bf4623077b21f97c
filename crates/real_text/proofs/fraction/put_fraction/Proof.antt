-- `real_text::fraction::put_fraction` meets its contract: the digits of the nearest.
-- Assumes nothing.
use native.Mathlib.Omega.{arith}
use Rattle.real_text.proofs.Fractions.{places_power, places_small, fraction_put}
use borrow.Author.Rules.{rules}
use Rattle.real_text.proofs.fraction.put_fraction.Statement.{statement}
use Rattle.real_text.proofs.fraction.put_fraction.Tie as tie

places-of-requires : tie.Need-places_of-places-requires
places-of-requires c κs = search rules

nearest-in-requires : tie.Need-nearest_in-requires
nearest-in-requires c κs =
    (places_power c.args.part c.places_of-places.ensures.1, c.requires)

put-digits-requires : tie.Need-put_digits-requires
put-digits-requires c κs =
    places_small c.args.part c.requires c.places_of-places.ensures.0 c.places_of-places.ensures.1 c.nearest_in.ensures

same_length : tie.Need-shape_of-out
same_length c = search rules

returns : tie.Need-returns
returns c =
    fraction_put c.args.part c.places_of-places.ensures.0 c.places_of-places.ensures.1 c.nearest_in.ensures c.put_digits.ensures

pub put_fraction_spec : {M : Type 1} → statement M
put_fraction_spec =
    tie.close
    (tie.spec
    places-of-requires
    nearest-in-requires
    put-digits-requires
    same_length
    returns)
