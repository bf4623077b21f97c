-- `pl_write_refusals::is_instruction_shown` meets its contract: next, then the operand.
-- Assumes nothing.
use borrow.Author.Tests.{not-true, not-false}
use Rattle.pl_write_refusals.proofs.Shown.{instruction_not, instruction_rest}
use borrow.Author.Rules.{rules}
use Rattle.pl_write_refusals.proofs.is_instruction_shown.Statement.{statement}
use Rattle.pl_write_refusals.proofs.is_instruction_shown.Tie as tie

field-at-requires : tie.Need-field_at-requires
field-at-requires c κs = search rules

is-next-shown-requires : tie.Need-is_next_shown-requires
is-next-shown-requires c κs = search rules

returns : tie.Need-returns-then-not-is_next_shown
returns c =
    instruction_not c.args.instructions.now c.args.kerns c.args.i c.field_at.ensures c.is_next_shown.ensures
    (c.if-not-is_next_shown.true)

field-at-requires-2 : tie.Need-field_at-requires-2
field-at-requires-2 c κs = search rules

field-at-requires-3 : tie.Need-field_at-requires-3
field-at-requires-3 c κs = search rules

is-operand-shown-requires : tie.Need-is_operand_shown-requires
is-operand-shown-requires c κs = search rules

returns-2 : tie.Need-returns
returns-2 c =
    instruction_rest c.args.instructions.now c.args.kerns c.args.i c.field_at.ensures c.is_next_shown.ensures
    (c.if-not-is_next_shown.false)
    c.field_at-2.ensures c.field_at-3.ensures c.is_operand_shown.ensures

pub is_instruction_shown_spec : {M : Type 1} → statement M
is_instruction_shown_spec =
    tie.close
    (tie.spec
    field-at-requires
    is-next-shown-requires
    returns
    field-at-requires-2
    field-at-requires-3
    is-operand-shown-requires
    returns-2)
