-- `lang::instruction::operation_of` meets its contract: one return for each kind; the operand's word is its bits.
-- Assumes nothing.
use mathlib.Core.Path.{sym, ap, ◌∙◌}
use lib.IntN.{ℤ}
use borrow.Author.Rules.{rules}
use Rattle.lang.specs.declared.operation.Operation.TheVariants.{Kern}
use Rattle.lang.proofs.Records.{number_stored, operation_index, operation_ligature, operation_redirect, operation_kern}
use Rattle.lang.proofs.instruction.operation_of.Statement.{statement}
use Rattle.lang.proofs.instruction.operation_of.Tie as tie

cast-t5 : tie.Need-overflow_cast-result
cast-t5 c = search rules

returns : tie.Need-returns-then-kind-eq1
returns c = let a = c.args in sym (operation_index a.kind a.operand c.if-kind-eq1.true c.ranges.operand.fits)

cast-lig-kern-operation-from-bytes : tie.Need-overflow_cast-operand
cast-lig-kern-operation-from-bytes c = search rules

cast-lig-kern-operation-from-bytes-2 : tie.Need-overflow_cast-operand-then-kind-eq2
cast-lig-kern-operation-from-bytes-2 c = search rules

lig-kern-operation-from-bytes-requires : tie.Need-lig_kern_operation_from_bytes-requires
lig-kern-operation-from-bytes-requires c κs = search rules

returns-2 : tie.Need-returns-then-kind-eq2
returns-2 c =
    let b = c.before.before.before in
    c.lig_kern_operation_from_bytes.ensures ∙ sym (operation_ligature b.args.kind b.args.operand c.if-kind-eq2.true b.ranges.operand.fits)

cast-t12 : tie.Need-overflow_cast-result-then-kind-eq3
cast-t12 c = search rules

returns-3 : tie.Need-returns-then-kind-eq3
returns-3 c = let b = c.before.before.before in sym (operation_redirect b.args.kind b.args.operand c.if-kind-eq3.true b.ranges.operand.fits)

number-of-requires : tie.Need-number_of-requires
number-of-requires c κs = search rules

returns-4 : tie.Need-returns
returns-4 c =
    let b = c.before.before.before.before in
    ap (λ (z : ℤ). Kern (record { 0 = z })) (number_stored b.args.operand c.number_of.result c.number_of.ensures b.ranges.operand.fits)
    ∙ sym (operation_kern b.args.kind b.args.operand c.if-kind-eq1.false c.if-kind-eq2.false c.if-kind-eq3.false)

pub operation_of_spec : {M : Type 1} → statement M
operation_of_spec =
    tie.close
    (tie.spec
    cast-t5
    returns
    cast-lig-kern-operation-from-bytes
    cast-lig-kern-operation-from-bytes-2
    lig-kern-operation-from-bytes-requires
    returns-2
    cast-t12
    returns-3
    number-of-requires
    returns-4)
