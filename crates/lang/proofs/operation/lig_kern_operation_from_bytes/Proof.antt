-- `lang::operation::lig_kern_operation_from_bytes` meets its contract: below 128 the op byte is a ligature; from there on the two bytes are a kern index. Assumes nothing.
use mathlib.Core.Path.{◌∙◌, sym}
use native.Mathlib.Omega.{arith}
use Rattle.lang.proofs.Standard.{below_128, kern_index}
use borrow.Author.Rules.{rules}
use Rattle.lang.proofs.operation.lig_kern_operation_from_bytes.Statement.{statement}
use Rattle.lang.proofs.operation.lig_kern_operation_from_bytes.Tie as tie

ligature-requires : tie.Need-ligature-requires
ligature-requires c κs = search rules

cast-high : tie.Need-overflow_cast-high
cast-high c = search rules

mul-index : tie.Need-overflow_mul-index
mul-index c = search rules

add-index : tie.Need-overflow_add-index
add-index c = search rules

returns : tie.Need-returns-then-op_byte-lt128
returns c = let a = c.args in c.ligature.ensures ∙ sym (below_128 a.op_byte a.remainder (omega arith))

returns-2 : tie.Need-returns-else-op_byte-lt128
returns-2 c = let a = c.args in sym (kern_index a.op_byte a.remainder (omega arith))

pub lig_kern_operation_from_bytes_spec : {M : Type 1} → statement M
lig_kern_operation_from_bytes_spec =
    tie.close
    (tie.spec
    ligature-requires
    cast-high
    mul-index
    add-index
    returns
    returns-2)
