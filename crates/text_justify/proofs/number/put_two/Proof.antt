-- `text_justify::number::put_two` meets its contract.
-- Assumes nothing.
use native.Mathlib.Omega.{arith}
use lib.ListN.{length-set}
use Rattle.text_digits.proofs.Decimal.{pair_second, pair_stored}
use borrow.Author.Rules.{rules}
use Rattle.text_justify.proofs.number.put_two.Statement.{statement}
use Rattle.text_justify.proofs.number.put_two.Tie as tie

digit-pair-requires : tie.Need-digit_pair-both-requires
digit-pair-requires c κs = search rules

cast-out : tie.Need-overflow_cast-out
cast-out c = search rules

slice-write-out : tie.Need-bounds-out-at
slice-write-out c = search rules

cast-out-2 : tie.Need-overflow_cast-out-2
cast-out-2 c = omega (arith, pair_second c.requires.0 c.digit_pair-both.ensures)

add-out : tie.Need-overflow_add-out
add-out c = search rules

slice-write-out-2 : tie.Need-bounds-out-at-2
slice-write-out-2 c = simp length-set (omega arith)

same_length : tie.Need-shape_of-out
same_length c = search rules

returns : tie.Need-returns
returns c = pair_stored c.requires.0 c.digit_pair-both.ensures c.args.out.now c.args.at

pub put_two_spec : {M : Type 1} → statement M
put_two_spec =
    tie.close
    (tie.spec
    digit-pair-requires
    cast-out
    slice-write-out
    cast-out-2
    add-out
    slice-write-out-2
    same_length
    returns)
