-- `file_words::first_byte` meets its contract: its tests are those of the definition.
-- Assumes nothing.
use Prim.Native.Nat.{suc, ◌/◌}
use lib.ListN.{length}
use borrow.Author.Tests.{eq-eqb, ne_eqb}
use Rattle.words.proofs.Bits.{number_pos, number_neg, read_pos, read_neg}
use native.Mathlib.Omega.{arith}
use borrow.Author.Rules.{rules}
use Rattle.file_words.proofs.first_byte.Statement.{statement}
use Rattle.file_words.proofs.first_byte.Tie as tie

field-at-requires : tie.Need-field_at-requires
field-at-requires c κs = search rules

returns : tie.Need-returns-then-boundary-lt2147483648
returns c =
    rw (← c.field_at.ensures.is, c.if-field_at-eq3.true, number_pos c.args.boundary c.if-boundary-lt2147483648.true)

add-if3 : tie.Need-overflow_add-i
add-if3 c = search rules

returns-2 : tie.Need-returns-then-i-instructions
returns-2 c =
    let a = c.args in
    rw (
      ← c.field_at.ensures.is,
      c.if-field_at-eq3.true,
      number_neg a.boundary c.if-boundary-lt2147483648.false,
      eq-eqb (suc a.i) (length a.instructions.now / 4) (omega (arith, c.if-i-instructions.true)),
    )

returns-3 : tie.Need-returns-then-field_at-eq3
returns-3 c =
    let a = c.args in
    rw (
      ← c.field_at.ensures.is,
      c.if-field_at-eq3.true,
      number_neg a.boundary c.if-boundary-lt2147483648.false,
      ne_eqb (suc a.i) (length a.instructions.now / 4) (λ e. c.if-i-instructions.false (omega arith)),
    )

field-at-requires-2 : tie.Need-field_at-next-requires
field-at-requires-2 c κs = search rules

cast-result : tie.Need-overflow_cast-result
cast-result c = search rules

returns-4 : tie.Need-returns-then-next-lt2147483648
returns-4 c =
    rw (
      ← c.field_at.ensures.is,
      ne_eqb c.field_at.result 3 c.if-field_at-eq3.false,
      read_pos c.field_at-next.ensures c.if-next-lt2147483648.true,
    )

returns-5 : tie.Need-returns-else-next-lt2147483648
returns-5 c =
    rw (
      ← c.field_at.ensures.is,
      ne_eqb c.field_at.result 3 c.if-field_at-eq3.false,
      read_neg c.field_at-next.ensures c.if-next-lt2147483648.false,
    )

pub first_byte_spec : {M : Type 1} → statement M
first_byte_spec =
    tie.close
    (tie.spec
    field-at-requires
    returns
    add-if3
    returns-2
    returns-3
    field-at-requires-2
    cast-result
    returns-4
    returns-5)
