-- `text_justify::put_pair_fields` meets its contract: as the list is long.
-- Assumes nothing.
use mathlib.Core.Path.{◌≡◌, sym, ◌∙◌}
use mathlib.Core.Bool.{true, false}
use Prim.Native.Nat.{◌+◌}
use native.Mathlib.Omega.{arith}
use lib.ListN.{length}
use Rattle.text_justify.specs.InFields.{numbers_from, five_from, fields_fit}
use Rattle.text_justify.proofs.Fill.{five_parts}
use Rattle.text_justify.proofs.Fit.{Fit, fit_of, fit_is, where_fits, where_misses, fits_where}
use borrow.Author.Rules.{rules}
use Rattle.text_justify.proofs.put_pair_fields.Statement.{statement}
use Rattle.text_justify.proofs.put_pair_fields.Tie as tie

-- the fields are taken; they are not
fitting : (c : tie.Else-not-fields_fit) → let a = c.args in fields_fit 9223372036854775808 a.first 5 a.at (length a.out.now) ≡ true
fitting c = sym c.fields_fit.ensures ∙ c.if-not-fields_fit.false

missing : (c : tie.Then-not-fields_fit) → let a = c.args in fields_fit 9223372036854775808 a.first 5 a.at (length a.out.now) ≡ false
missing c = sym c.fields_fit.ensures ∙ c.if-not-fields_fit.true

room : (c : tie.Else-not-fields_fit) → let a = c.args in Fit 9223372036854775808 a.first 5 a.at (length a.out.now)
room c = let a = c.args in fit_of 9223372036854775808 a.first 5 a.at (length a.out.now) (fitting c)

fields-fit-requires : tie.Need-fields_fit-requires
fields-fit-requires c κs = search rules

returns : tie.Need-returns-then-not-fields_fit
returns c = let a = c.args in where_misses a.out.now a.at (five_from a.pairs.now a.first) (missing c)

add-if2 : tie.Need-overflow_add-first
add-if2 c = omega (arith, (room c).first)

put-fields-requires : tie.Need-put_fields-requires
put-fields-requires c κs = search rules

add-put-fields : tie.Need-overflow_add-first-then-pairs-first
add-put-fields c = omega (arith, (room c.before.before.before.before.before).first)

add-put-fields-2 : tie.Need-overflow_add-at
add-put-fields-2 c =
    omega (arith, (room (c.before.before.before.before.before.before)).place, c.well_formed)

put-fields-requires-2 : tie.Need-put_fields-requires-then-pairs-first
put-fields-requires-2 c κs = search rules

same_length : tie.Need-shape_of-out-then-pairs-first
same_length c = search rules

returns-2 : tie.Need-returns-then-pairs-first
returns-2 c =
    let a = c.args in
    let r = room (c.before.before.before.before.before.before.before.before.before) in
    let d = c.put_fields.new.out in
    let four = fit_is 18446744073709551609 a.first 4 a.at (length a.out.now) (omega arith) (omega (arith, r.first)) (omega (arith, r.place)) in
    let one = fit_is 18446744073709551609 (a.first + 5) 1 (a.at + 48) (length d) (omega arith) (omega (arith, r.first))
    (omega (arith, r.place, c.put_fields.auto.out)) in
    where_fits a.out.now a.at (five_from a.pairs.now a.first) (fitting (c.before.before.before.before.before.before.before.before.before))
    (five_parts a.pairs.now a.first a.out.now a.at
    (fits_where a.out.now a.at (numbers_from a.pairs.now a.first 4) four c.put_fields.ensures)
    (fits_where d (a.at + 48) (numbers_from a.pairs.now (a.first + 5) 1) one c.put_fields-then-pairs-first.ensures))

put-five-requires : tie.Need-put_five-requires
put-five-requires c κs = (omega (arith, c.if-pairs-first.false), omega (arith, (room c.before.before).place))

same-length-2 : tie.Need-shape_of-out
same-length-2 c = search rules

returns-3 : tie.Need-returns
returns-3 c =
    let a = c.args in
    where_fits a.out.now a.at (five_from a.pairs.now a.first) (fitting (c.before.before.before.before.before)) c.put_five.ensures

pub put_pair_fields_spec : {M : Type 1} → statement M
put_pair_fields_spec =
    tie.close
    (tie.spec
    fields-fit-requires
    returns
    add-if2
    put-fields-requires
    add-put-fields
    add-put-fields-2
    put-fields-requires-2
    same_length
    returns-2
    put-five-requires
    same-length-2
    returns-3)
