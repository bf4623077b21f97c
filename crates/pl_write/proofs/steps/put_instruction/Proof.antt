-- `pl_write::steps::put_instruction` meets its contract: the step, and where it goes on.
-- Assumes nothing.
use Rattle.pl_write.proofs.Program.{instruction_put}
use borrow.Author.Rules.{rules}
use Rattle.pl_write.proofs.steps.put_instruction.Statement.{statement}
use Rattle.pl_write.proofs.steps.put_instruction.Tie as tie

put-step-requires : tie.Need-put_step-next-requires
put-step-requires c κs = search rules

field-at-requires : tie.Need-field_at-requires
field-at-requires c κs = search rules

put-next-requires : tie.Need-put_next-requires
put-next-requires c κs = search rules

same_length : tie.Need-shape_of-out
same_length c = search rules

returns : tie.Need-returns
returns c =
    instruction_put c.args.instructions.now c.args.kerns.now c.args.i c.put_step-next.ensures c.field_at.ensures
    c.put_next.ensures

pub put_instruction_spec : {M : Type 1} → statement M
put_instruction_spec =
    tie.close
    (tie.spec
    put-step-requires
    field-at-requires
    put-next-requires
    same_length
    returns)
