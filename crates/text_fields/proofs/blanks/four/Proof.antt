-- `text_fields::blanks::four` meets its contract: twice two bytes. Assumes nothing.
use native.Mathlib.Omega.{arith}
use borrow.Author.Rules.{rules}
use Rattle.text_fields.proofs.Leading.{blank_twice}
use Rattle.text_fields.proofs.blanks.four.Statement.{statement}
use Rattle.text_fields.proofs.blanks.four.Tie as tie

two-requires : tie.Need-two-requires
two-requires c κs = search rules

add-two : tie.Need-overflow_add-at
add-two c = search rules

two-requires-2 : tie.Need-two-requires-2
two-requires-2 c κs = search rules

mul-result : tie.Need-overflow_mul-result
mul-result c = search rules

add-result : tie.Need-overflow_add-result
add-result c = search rules

returns : tie.Need-returns
returns c =
    let a = c.args in
    record {
      below = omega arith;
      all = λ e. blank_twice a.text.now a.at 2 _ (omega arith) (c.two.ensures.all (omega (arith, e))) (c.two-2.ensures.all (omega (arith, e)));
    }

pub four_spec : {M : Type 1} → statement M
four_spec =
    tie.close
    (tie.spec
    two-requires
    add-two
    two-requires-2
    mul-result
    add-result
    returns)
