-- `pl_write::steps::kern_of` meets its contract: the kern at an index, or the value.
-- Assumes nothing.
use Rattle.pl_write.proofs.Program.{kern_index, kern_value}
use borrow.Author.Rules.{rules}
use Rattle.pl_write.proofs.steps.kern_of.Statement.{statement}
use Rattle.pl_write.proofs.steps.kern_of.Tie as tie

field-at-requires : tie.Need-field_at-operand-requires
field-at-requires c κs = search rules

field-at-requires-2 : tie.Need-field_at-requires
field-at-requires-2 c κs = search rules

cast-word-at : tie.Need-overflow_cast-operand
cast-word-at c = search rules

word-at-requires : tie.Need-word_at-requires
word-at-requires c κs = search rules

returns : tie.Need-returns-then-field_at-eq1
returns c =
    kern_index c.args.instructions.now c.args.kerns.now c.args.i c.field_at.ensures c.field_at-operand.ensures
    c.if-field_at-eq1.true c.word_at.ensures

returns-2 : tie.Need-returns
returns-2 c =
    kern_value c.args.instructions.now c.args.kerns.now c.args.i c.field_at.ensures c.field_at-operand.ensures c.if-field_at-eq1.false

pub kern_of_spec : {M : Type 1} → statement M
kern_of_spec =
    tie.close
    (tie.spec
    field-at-requires
    field-at-requires-2
    cast-word-at
    word-at-requires
    returns
    returns-2)
