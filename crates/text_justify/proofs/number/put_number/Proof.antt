-- `text_justify::number::put_number` meets its contract: one digit, two, or more.
-- Assumes nothing.
use mathlib.Core.Path.{◌∙◌}
use Rattle.text_digits.proofs.Decimal.{spells_one, spells_two, room_is}
use borrow.Author.Rules.{rules}
use Rattle.text_justify.proofs.number.put_number.Statement.{statement}
use Rattle.text_justify.proofs.number.put_number.Tie as tie

cast-out : tie.Need-overflow_cast-out
cast-out c = search rules

add-out : tie.Need-overflow_add-out
add-out c = search rules

add-out-2 : tie.Need-overflow_add-out-then-w-lt10
add-out-2 c = search rules

slice-write-out : tie.Need-bounds-out-at
slice-write-out c = search rules

same_length : tie.Need-shape_of-out-then-w-lt10
same_length c = search rules

returns : tie.Need-returns-then-w-lt10
returns c = spells_one c.args.out.now c.args.at c.args.w c.if-w-lt10.true

add-put-two : tie.Need-overflow_add-at
add-put-two c = search rules

put-two-requires : tie.Need-put_two-requires
put-two-requires c κs = search rules

same-length-2 : tie.Need-shape_of-out-then-w-lt100
same-length-2 c = search rules

returns-2 : tie.Need-returns-then-w-lt100
returns-2 c =
    spells_two c.args.out.now c.args.at c.args.w c.if-w-lt10.false c.if-w-lt100.true c.put_two.new.out c.put_two.ensures

put-long-requires : tie.Need-put_long-requires
put-long-requires c κs = search rules

same-length-3 : tie.Need-shape_of-out
same-length-3 c = search rules

returns-3 : tie.Need-returns
returns-3 c =
    c.put_long.ensures ∙ room_is c.args.out.now c.args.at c.args.w c.requires

pub put_number_spec : {M : Type 1} → statement M
put_number_spec =
    tie.close
    (tie.spec
    cast-out
    add-out
    add-out-2
    slice-write-out
    same_length
    returns
    add-put-two
    put-two-requires
    same-length-2
    returns-2
    put-long-requires
    same-length-3
    returns-3)
