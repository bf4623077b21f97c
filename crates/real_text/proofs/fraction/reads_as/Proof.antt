-- `real_text::fraction::reads_as` meets its contract: both ends, in the order of the definition.
-- Assumes nothing.
use native.Mathlib.Omega.{arith}
use Rattle.real_text.proofs.Fractions.{product_fits, less_fits, reads_none, reads_some, reads_below}
use borrow.Author.Rules.{rules}
use Rattle.real_text.proofs.fraction.reads_as.Statement.{statement}
use Rattle.real_text.proofs.fraction.reads_as.Tie as tie

mul-result : tie.Need-overflow_mul-result
mul-result c = search rules

returns : tie.Need-returns-then-f-eq0
returns c = let a = c.args in reads_none a.p a.f a.d c.if-f-eq0.true

mul-if2 : tie.Need-overflow_mul-f
mul-if2 c = search rules

sub-if2 : tie.Need-overflow_sub-f
sub-if2 c = search rules

mul-if2-2 : tie.Need-overflow_mul-f-2
mul-if2-2 c = omega (arith, less_fits c.args.f c.args.p c.requires.1.0)

mul-if2-3 : tie.Need-overflow_mul-d
mul-if2-3 c = search rules

mul-result-2 : tie.Need-overflow_mul-result-then-f-p
mul-result-2 c = search rules

mul-result-3 : tie.Need-overflow_mul-result-then-f-p-2
mul-result-3 c = search rules

add-result : tie.Need-overflow_add-result
add-result c = search rules

mul-result-4 : tie.Need-overflow_mul-result-then-f-p-3
mul-result-4 c = omega (arith, product_fits c.args.f c.args.p c.requires.1.0 c.requires.0)

returns-2 : tie.Need-returns-then-f-p
returns-2 c =
    reads_some c.args.p c.args.f c.args.d c.if-f-p.true

returns-3 : tie.Need-returns-else-f-p
returns-3 c =
    reads_below c.args.p c.args.f c.args.d c.if-f-p.false

pub reads_as_spec : {M : Type 1} → statement M
reads_as_spec =
    tie.close
    (tie.spec
    mul-result
    returns
    mul-if2
    sub-if2
    mul-if2-2
    mul-if2-3
    mul-result-2
    mul-result-3
    add-result
    mul-result-4
    returns-2
    returns-3)
