-- `file_words::last_half` meets its contract, by the kind.
-- Assumes nothing.
use borrow.Author.Tests.{ne_eqb}
use borrow.Author.Rules.{rules}
use Rattle.file_words.proofs.last_half.Statement.{statement}
use Rattle.file_words.proofs.last_half.Tie as tie

field-at-requires : tie.Need-field_at-operand-requires
field-at-requires c κs = search rules

field-at-requires-2 : tie.Need-field_at-requires
field-at-requires-2 c κs = search rules

add-result : tie.Need-overflow_add-result
add-result c = search rules

cast-result : tie.Need-overflow_cast-result
cast-result c = search rules

cast-result-2 : tie.Need-overflow_cast-result-else-field_at-eq1
cast-result-2 c = search rules

returns : tie.Need-returns-then-field_at-eq1
returns c = rw (← c.field_at.ensures.is, ← c.field_at-operand.ensures.is, c.if-field_at-eq1.true)

returns-2 : tie.Need-returns-else-field_at-eq1
returns-2 c =
    rw (← c.field_at.ensures.is, ← c.field_at-operand.ensures.is, ne_eqb c.field_at.result 1 c.if-field_at-eq1.false)

pub last_half_spec : {M : Type 1} → statement M
last_half_spec =
    tie.close
    (tie.spec
    field-at-requires
    field-at-requires-2
    add-result
    cast-result
    cast-result-2
    returns
    returns-2)
