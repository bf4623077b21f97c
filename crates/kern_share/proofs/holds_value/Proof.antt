-- `kern_share::holds_value` meets its contract, by its tests. Assumes nothing.
use native.Mathlib.Omega.{arith}
use borrow.Author.Rules.{rules}
use Rattle.kern_share.proofs.Laws.{holds_none, holds_kern, holds_other, holds_past, holds_index}
use Rattle.kern_share.proofs.holds_value.Statement.{statement}
use Rattle.kern_share.proofs.holds_value.Tie as tie

returns : tie.Need-returns-then-instructions-i
returns c = let a = c.args in holds_none a.instructions.now a.k a.i (omega arith)

field-at-requires : tie.Need-field_at-kind-requires
field-at-requires c κs = search rules

returns-2 : tie.Need-returns-then-kind-eq0
returns-2 c =
    let a = c.args in
    holds_kern a.instructions.now a.k a.i (omega (arith, c.if-instructions-i.false)) c.field_at-kind.ensures c.if-kind-eq0.true

returns-3 : tie.Need-returns-then-kind-ne1
returns-3 c =
    let a = c.args in
    holds_other a.instructions.now a.k a.i (omega (arith, c.if-instructions-i.false)) c.field_at-kind.ensures c.if-kind-eq0.false c.if-kind-ne1.true

field-at-requires-2 : tie.Need-field_at-operand-requires
field-at-requires-2 c κs = search rules

cast-if4 : tie.Need-overflow_cast-operand
cast-if4 c = search rules

returns-4 : tie.Need-returns-then-k-operand
returns-4 c =
    let a = c.args in
    holds_past a.instructions.now a.k a.i (omega (arith, c.if-instructions-i.false)) c.field_at-kind.ensures c.if-kind-eq0.false c.if-kind-ne1.false
    c.field_at-operand.ensures c.if-k-operand.true

returns-5 : tie.Need-returns-else-k-operand
returns-5 c =
    let a = c.args in
    holds_index a.instructions.now a.k a.i (omega (arith, c.if-instructions-i.false)) c.field_at-kind.ensures c.if-kind-eq0.false c.if-kind-ne1.false
    c.field_at-operand.ensures c.if-k-operand.false

pub holds_value_spec : {M : Type 1} → statement M
holds_value_spec =
    tie.close
    (tie.spec
    returns
    field-at-requires
    returns-2
    returns-3
    field-at-requires-2
    cast-if4
    returns-4
    returns-5)
