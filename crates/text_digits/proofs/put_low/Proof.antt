-- `text_digits::put_low` meets its contract: two digits of what is left over a hundred.
-- Assumes nothing.
use mathlib.Core.Path.{◌≡◌, refl, ◌∙◌}
use mathlib.Core.List.{[], ◌∷◌}
use Prim.Native.Nat.{◌+◌, ◌/◌, ◌%◌, ◌<◌}
use native.Mathlib.Omega.{arith}
use lib.ListN.{length-set}
use lib.Seq.{sets}
use Rattle.text_digits.proofs.Decimal.{pair_second, pair_stored}
use borrow.Author.Rules.{rules}
use Rattle.text_digits.proofs.put_low.Statement.{statement}
use Rattle.text_digits.proofs.put_low.Tie as tie

-- what is left over a hundred is below it
rest : (c : tie.After-digit_pair-both) → let n = c.args.n in n % 100 < 100
rest c = omega arith

digit-pair-requires : tie.Need-digit_pair-both-requires
digit-pair-requires c κs = search rules

cast-out : tie.Need-overflow_cast-out
cast-out c = search rules

slice-write-out : tie.Need-bounds-out-at
slice-write-out c = search rules

cast-out-2 : tie.Need-overflow_cast-out-2
cast-out-2 c = omega (arith, pair_second (rest c) c.digit_pair-both.ensures)

add-out : tie.Need-overflow_add-out
add-out c = search rules

slice-write-out-2 : tie.Need-bounds-out-at-2
slice-write-out-2 c = simp length-set (omega arith)

same_length : tie.Need-shape_of-out
same_length c = search rules

returns : tie.Need-returns
returns c =
    let a = c.args in
    let n = a.n in
    let tens : n % 100 / 10 ≡ n / 10 % 10 = omega arith in
    let ones : n % 100 % 10 ≡ n % 10 = omega arith in
    (refl, pair_stored (rest c) c.digit_pair-both.ensures a.out.now a.at ∙ (λ i. sets a.out.now a.at ((48 + tens i) ∷ (48 + ones i) ∷ [])))

pub put_low_spec : {M : Type 1} → statement M
put_low_spec =
    tie.close
    (tie.spec
    digit-pair-requires
    cast-out
    slice-write-out
    cast-out-2
    add-out
    slice-write-out-2
    same_length
    returns)
