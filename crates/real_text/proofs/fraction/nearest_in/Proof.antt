-- `real_text::fraction::nearest_in` meets its contract: no product passes a u64.
-- Assumes nothing.
use native.Mathlib.Omega.{arith}
use Rattle.real_text.proofs.Fractions.{product_fits}
use borrow.Author.Rules.{rules}
use Rattle.real_text.proofs.fraction.nearest_in.Statement.{statement}
use Rattle.real_text.proofs.fraction.nearest_in.Tie as tie

mul-result : tie.Need-overflow_mul-result
mul-result c = search rules

mul-result-2 : tie.Need-overflow_mul-result-2
mul-result-2 c = let a = c.args in omega (arith, product_fits a.f a.p c.requires.1 c.requires.0)

add-result : tie.Need-overflow_add-result
add-result c = let a = c.args in omega (arith, product_fits a.f a.p c.requires.1 c.requires.0)

returns : tie.Need-returns
returns c = search rules

pub nearest_in_spec : {M : Type 1} → statement M
nearest_in_spec =
    tie.close
    (tie.spec
    mul-result
    mul-result-2
    add-result
    returns)
