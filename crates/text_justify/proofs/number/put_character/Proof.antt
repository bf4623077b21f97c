-- `text_justify::number::put_character` meets its contract: three digits, or as any number. Below 1,000, 41 of 4096 parts are a hundredth.
-- Assumes nothing.
use mathlib.Core.Path.{refl, ◌∙◌}
use Prim.Native.Nat.{◌+◌, ◌*◌, ◌/◌}
use native.Mathlib.Omega.{arith}
use lib.ListN.{length-set}
use Rattle.text_digits.proofs.Decimal.{spells_three, room_is}
use borrow.Author.Rules.{rules}
use Rattle.text_justify.proofs.number.put_character.Statement.{statement}
use Rattle.text_justify.proofs.number.put_character.Tie as tie

put-number-requires : tie.Need-put_number-requires
put-number-requires c κs = search rules

same_length : tie.Need-shape_of-out-then-w-lt100
same_length c = search rules

returns : tie.Need-returns-then-w-lt100
returns c = search rules

mul-hundreds : tie.Need-overflow_mul-hundreds
mul-hundreds c = search rules

add-out : tie.Need-overflow_add-out
add-out c = search rules

cast-out : tie.Need-overflow_cast-out
cast-out c = search rules

add-out-2 : tie.Need-overflow_add-out-then-w-lt1000
add-out-2 c = search rules

slice-write-out : tie.Need-bounds-out-at
slice-write-out c = search rules

add-put-two : tie.Need-overflow_add-at
add-put-two c = search rules

mul-put-two : tie.Need-overflow_mul-hundreds-then-w-lt1000
mul-put-two c = search rules

sub-put-two : tie.Need-overflow_sub-w
sub-put-two c = search rules

put-two-requires : tie.Need-put_two-requires
put-two-requires c κs =
    (omega (arith, c.if-w-lt1000.true), omega (arith, c.requires, length-set c.args.out.now (c.args.at + 9) (48 + c.args.w * 41 / 4096)))

same-length-2 : tie.Need-shape_of-out-then-w-lt1000
same-length-2 c =
    c.put_two.auto.out ∙ length-set c.args.out.now (c.args.at + 9) (48 + c.args.w * 41 / 4096)

returns-2 : tie.Need-returns-then-w-lt1000
returns-2 c =
    spells_three c.args.out.now c.args.at c.args.w _ _ c.if-w-lt100.false c.if-w-lt1000.true refl refl c.put_two.new.out c.put_two.ensures

put-long-requires : tie.Need-put_long-requires
put-long-requires c κs = search rules

same-length-3 : tie.Need-shape_of-out
same-length-3 c = search rules

returns-3 : tie.Need-returns
returns-3 c =
    c.put_long.ensures ∙ room_is c.args.out.now c.args.at c.args.w c.requires

pub put_character_spec : {M : Type 1} → statement M
put_character_spec =
    tie.close
    (tie.spec
    put-number-requires
    same_length
    returns
    mul-hundreds
    add-out
    cast-out
    add-out-2
    slice-write-out
    add-put-two
    mul-put-two
    sub-put-two
    put-two-requires
    same-length-2
    returns-2
    put-long-requires
    same-length-3
    returns-3)
