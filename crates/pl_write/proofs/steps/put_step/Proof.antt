-- `pl_write::steps::put_step` meets its contract: a ligature, or a kern.
-- Assumes nothing.
use Rattle.pl_write.proofs.Program.{step_lig, step_krn}
use borrow.Author.Rules.{rules}
use Rattle.pl_write.proofs.steps.put_step.Statement.{statement}
use Rattle.pl_write.proofs.steps.put_step.Tie as tie

field-at-requires : tie.Need-field_at-right-requires
field-at-requires c κs = search rules

field-at-requires-2 : tie.Need-field_at-requires
field-at-requires-2 c κs = search rules

field-at-requires-3 : tie.Need-field_at-operand-requires
field-at-requires-3 c κs = search rules

put-lig-requires : tie.Need-put_lig-requires
put-lig-requires c κs = search rules

same_length : tie.Need-shape_of-out-then-field_at-eq2
same_length c = search rules

returns : tie.Need-returns-then-field_at-eq2
returns c =
    step_lig c.args.instructions.now c.args.kerns.now c.args.i c.field_at.ensures c.if-field_at-eq2.true c.field_at-right.ensures
    c.field_at-operand.ensures c.put_lig.ensures

kern-of-requires : tie.Need-kern_of-requires
kern-of-requires c κs = search rules

put-krn-requires : tie.Need-put_krn-requires
put-krn-requires c κs = search rules

same-length-2 : tie.Need-shape_of-out
same-length-2 c = search rules

returns-2 : tie.Need-returns
returns-2 c =
    step_krn c.args.instructions.now c.args.kerns.now c.args.i c.field_at.ensures c.if-field_at-eq2.false c.field_at-right.ensures
    c.kern_of.ensures c.put_krn.ensures

pub put_step_spec : {M : Type 1} → statement M
put_step_spec =
    tie.close
    (tie.spec
    field-at-requires
    field-at-requires-2
    field-at-requires-3
    put-lig-requires
    same_length
    returns
    kern-of-requires
    put-krn-requires
    same-length-2
    returns-2)
