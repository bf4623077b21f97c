-- `kern_share::held_word` meets its contract: a kern value, or zero. Assumes nothing.
use borrow.Author.Rules.{rules}
use Rattle.kern_share.proofs.Laws.{held_kern, held_zero}
use Rattle.kern_share.proofs.held_word.Statement.{statement}
use Rattle.kern_share.proofs.held_word.Tie as tie

field-at-requires : tie.Need-field_at-requires
field-at-requires c κs = search rules

field-at-requires-2 : tie.Need-field_at-requires-then-field_at-eq0
field-at-requires-2 c κs = search rules

returns : tie.Need-returns-then-field_at-eq0
returns c =
    let a = c.args in
    held_kern a.instructions.now a.i c.field_at.ensures c.if-field_at-eq0.true c.field_at-then-field_at-eq0.ensures

returns-2 : tie.Need-returns
returns-2 c = let a = c.args in held_zero a.instructions.now a.i c.field_at.ensures c.if-field_at-eq0.false

pub held_word_spec : {M : Type 1} → statement M
held_word_spec =
    tie.close
    (tie.spec
    field-at-requires
    field-at-requires-2
    returns
    returns-2)
