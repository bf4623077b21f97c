-- `lang::operation::ligature` meets its contract: the quotient by four and the two low bits are those of the definition, and so is the test. Assumes nothing.
use mathlib.Core.Path.{◌∙◌, sym}
use native.Mathlib.Omega.{arith}
use Rattle.lang.proofs.Standard.{within_retained, beyond_retained}
use borrow.Author.Rules.{rules}
use Rattle.lang.proofs.operation.ligature.Statement.{statement}
use Rattle.lang.proofs.operation.ligature.Tie as tie

add-if1 : tie.Need-overflow_add-b
add-if1 c = search rules

retains-requires : tie.Need-retains-requires
retains-requires c κs = search rules

marked-requires : tie.Need-marked-requires
marked-requires c κs = search rules

marked-requires-2 : tie.Need-marked-requires-else-a-b
marked-requires-2 c κs = search rules

returns : tie.Need-returns-then-a-b
returns c =
    let a = c.args in
    c.marked.ensures ∙ rw c.retains.ensures (sym (within_retained a.op_byte a.inserted (omega arith)))

returns-2 : tie.Need-returns-else-a-b
returns-2 c = let a = c.args in c.marked-else-a-b.ensures ∙ sym (beyond_retained a.op_byte a.inserted (omega arith))

pub ligature_spec : {M : Type 1} → statement M
ligature_spec =
    tie.close
    (tie.spec
    add-if1
    retains-requires
    marked-requires
    marked-requires-2
    returns
    returns-2)
