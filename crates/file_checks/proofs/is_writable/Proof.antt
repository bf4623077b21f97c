-- `file_checks::is_writable` meets its contract: the three tests of the words that were read are those of the numbers.
-- Assumes nothing.
use borrow.Author.Tests.{ne_eqb}
use Rattle.lang.specs.Records.{absent_or}
use Rattle.lang.proofs.Records.{tested}
use borrow.Author.Rules.{rules}
use Rattle.file_checks.proofs.is_writable.Statement.{statement}
use Rattle.file_checks.proofs.is_writable.Tie as tie

field-at-requires : tie.Need-field_at-kind-requires
field-at-requires c κs = search rules

returns : tie.Need-returns-then-kind-eq3
returns c = rw (← c.field_at-kind.ensures.is, c.if-kind-eq3.true)

field-at-requires-2 : tie.Need-field_at-requires
field-at-requires-2 c κs = search rules

is-next-writable-requires : tie.Need-is_next_writable-requires
is-next-writable-requires c κs = search rules

returns-2 : tie.Need-returns-then-not-is_next_writable
returns-2 c =
    rw (
      ← c.field_at-kind.ensures.is,
      ne_eqb c.field_at-kind.result 3 c.if-kind-eq3.false,
      tested (absent_or 127) c.field_at.ensures c.is_next_writable.ensures (c.if-not-is_next_writable.true),
    )

field-at-requires-3 : tie.Need-field_at-requires-then-kind-eq1
field-at-requires-3 c κs = search rules

cast-result : tie.Need-overflow_cast-result
cast-result c = search rules

returns-3 : tie.Need-returns-then-kind-eq1
returns-3 c =
    rw (
      ← c.field_at-kind.ensures.is,
      c.if-kind-eq1.true,
      tested (absent_or 127) c.field_at.ensures c.is_next_writable.ensures (c.if-not-is_next_writable.false),
      c.field_at-then-kind-eq1.ensures.is,
    )

returns-4 : tie.Need-returns
returns-4 c =
    rw (
      ← c.field_at-kind.ensures.is,
      ne_eqb c.field_at-kind.result 3 c.if-kind-eq3.false,
      tested (absent_or 127) c.field_at.ensures c.is_next_writable.ensures (c.if-not-is_next_writable.false),
      ne_eqb c.field_at-kind.result 1 c.if-kind-eq1.false,
    )

pub is_writable_spec : {M : Type 1} → statement M
is_writable_spec =
    tie.close
    (tie.spec
    field-at-requires
    returns
    field-at-requires-2
    is-next-writable-requires
    returns-2
    field-at-requires-3
    cast-result
    returns-3
    returns-4)
