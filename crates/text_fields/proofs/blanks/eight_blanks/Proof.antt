-- `text_fields::blanks::eight_blanks` meets its contract: twice four bytes. Assumes nothing.
use Prim.Native.Nat.{◌+◌, ◌*◌}
use native.Mathlib.Omega.{arith}
use borrow.Author.Rules.{rules}
use borrow.Author.Tests.{eqb-true}
use Rattle.text_fields.proofs.Leading.{blank_twice}
use Rattle.text_fields.proofs.blanks.eight_blanks.Statement.{statement}
use Rattle.text_fields.proofs.blanks.eight_blanks.Tie as tie

four-requires : tie.Need-four-requires
four-requires c κs = search rules

add-four : tie.Need-overflow_add-at
add-four c = search rules

four-requires-2 : tie.Need-four-requires-2
four-requires-2 c κs = search rules

mul-result : tie.Need-overflow_mul-result
mul-result c = search rules

add-result : tie.Need-overflow_add-result
add-result c = search rules

returns : tie.Need-returns
returns c t =
    let a = c.args in
    let e = eqb-true (c.four.result + c.four-2.result * 4294967296) 2314885530818453536 t in
    blank_twice a.text.now a.at 4 _ (omega arith) (c.four.ensures.all (omega (arith, e))) (c.four-2.ensures.all (omega (arith, e)))

pub eight_blanks_spec : {M : Type 1} → statement M
eight_blanks_spec =
    tie.close
    (tie.spec
    four-requires
    add-four
    four-requires-2
    mul-result
    add-result
    returns)
