-- `lang::instruction::instruction_at` meets its contract: the four numbers, each read by `field_at`, and what the two functions below make of them.
-- Assumes nothing.
use Rattle.lang.proofs.Records.{instruction_is}
use borrow.Author.Rules.{rules}
use Rattle.lang.proofs.instruction.instruction_at.Statement.{statement}
use Rattle.lang.proofs.instruction.instruction_at.Tie as tie

field-at-requires : tie.Need-field_at-right-requires
field-at-requires c κs = search rules

field-at-requires-2 : tie.Need-field_at-requires
field-at-requires-2 c κs = search rules

next-of-requires : tie.Need-next_of-requires
next-of-requires c κs = search rules

cast-t6 : tie.Need-overflow_cast-result
cast-t6 c = search rules

field-at-requires-3 : tie.Need-field_at-requires-2
field-at-requires-3 c κs = search rules

field-at-requires-4 : tie.Need-field_at-requires-3
field-at-requires-4 c κs = search rules

operation-of-requires : tie.Need-operation_of-requires
operation-of-requires c κs = search rules

returns : tie.Need-returns
returns c =
    let d = c.before.before.before.before in
    let e = d.before in
    instruction_is e.args.instructions.now e.args.i d.field_at.result e.field_at-right.result
    c.field_at-2.result c.field_at-3.result
    d.field_at.ensures e.field_at-right.ensures c.field_at-2.ensures c.field_at-3.ensures
    c.next_of.result c.operation_of.result c.next_of.ensures c.operation_of.ensures

pub instruction_at_spec : {M : Type 1} → statement M
instruction_at_spec =
    tie.close
    (tie.spec
    field-at-requires
    field-at-requires-2
    next-of-requires
    cast-t6
    field-at-requires-3
    field-at-requires-4
    operation-of-requires
    returns)
