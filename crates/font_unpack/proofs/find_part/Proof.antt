-- `font_unpack::find_part` meets its contract.
-- Assumes nothing.
use mathlib.Core.Path.{◌≡◌, refl, sym, ap, ◌∙◌}
use native.Mathlib.Omega.{arith}
use borrow.Author.Rules.{rules}
use Rattle.words.specs.Words.{number_of}
use Rattle.font_unpackings.specs.Unpackings.{in_front, own_start}
use Rattle.font_unpackings.proofs.Ends.{front_le}
use Rattle.font_unpack.proofs.Standing.{stands_yes, stands_no}
use Rattle.font_unpack.proofs.find_part.Statement.{statement}
use Rattle.font_unpack.proofs.find_part.Tie as tie

starts : (c : tie.After-in_front-start) → let a = c.args in c.in_front-start.result ≡ own_start a.instructions.now (number_of a.left)
starts c = c.in_front-start.ensures ∙ ap (in_front c.args.instructions.now) c.own_end-end.ensures

own-end-requires : tie.Need-own_end-end-requires
own-end-requires c κs = search rules

in-front-requires : tie.Need-in_front-start-requires
in-front-requires c κs = search rules

stands-packed-requires : tie.Need-stands_packed-requires
stands-packed-requires c κs = (c.own_end-end.ensures, starts c)

sub-t8 : tie.Need-overflow_sub-result
sub-t8 c =
    omega (arith, c.in_front-start.ensures, front_le c.args.instructions.now c.own_end-end.result)

returns : tie.Need-returns-then-stands_packed
returns c =
    let a = c.args in
    stands_yes a.instructions.now a.entries.now (number_of a.left) c.in_front-start.result c.own_end-end.result _ c.own_end-end.ensures
    (starts (c.before.before)) (sym c.stands_packed.ensures ∙ c.if-stands_packed.true) refl

returns-2 : tie.Need-returns-else-stands_packed
returns-2 c =
    let a = c.args in
    stands_no a.instructions.now a.entries.now (number_of a.left) (sym c.stands_packed.ensures ∙ c.if-stands_packed.false)

pub find_part_spec : {M : Type 1} → statement M
find_part_spec =
    tie.close
    (tie.spec
    own-end-requires
    in-front-requires
    stands-packed-requires
    sub-t8
    returns
    returns-2)
