-- `repair_passes::lent_refusal` meets its contract: the font's refusal, or the test of the lengths.
-- Assumes nothing.
use mathlib.Core.Path.{refl}
use borrow.Author.Tests.{eq-eqb, ne_eqb}
use borrow.Author.Rules.{rules}
use Rattle.lang.proofs.Refusals.{first_refusal}
use Rattle.repair_passes.proofs.lent_refusal.Statement.{statement}
use Rattle.repair_passes.proofs.lent_refusal.Tie as tie

returns : tie.Need-returns-then-font-ne0
returns c = first_refusal _ refl c.if-font-ne0.true

mul-if2 : tie.Need-overflow_mul-n
mul-if2 c = search rules

returns-2 : tie.Need-returns-then-program-n
returns-2 c = rw (c.if-font-ne0.false, ne_eqb _ _ c.if-program-n.true)

returns-3 : tie.Need-returns-then-through-n
returns-3 c = rw (c.if-font-ne0.false, eq-eqb _ _ c.if-program-n.false, eq-eqb _ _ c.if-through-n.true)

returns-4 : tie.Need-returns-else-through-n
returns-4 c = rw (c.if-font-ne0.false, eq-eqb _ _ c.if-program-n.false, ne_eqb _ _ c.if-through-n.false)

pub lent_refusal_spec : {M : Type 1} → statement M
lent_refusal_spec =
    tie.close
    (tie.spec
    returns
    mul-if2
    returns-2
    returns-3
    returns-4)
