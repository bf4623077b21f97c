-- `text_convert_lines::put_instruction` meets its contract: `put_lines` writes the line, or nothing. Assumes nothing.
use native.Mathlib.Omega.{arith}
use borrow.Author.Rules.{rules}
use Rattle.text_convert_lines.proofs.Standing.{instruction_put, instruction_left}
use Rattle.text_convert_lines.proofs.put_instruction.Statement.{statement}
use Rattle.text_convert_lines.proofs.put_instruction.Tie as tie

put-lines-requires : tie.Need-put_lines-next-requires
put-lines-requires c κs = search rules

add-result : tie.Need-overflow_add-result
add-result c = search rules

same_length : tie.Need-shape_of-out-then-next-to
same_length c = search rules

returns : tie.Need-returns-then-next-to
returns c =
    let a = c.args in
    instruction_left a.instructions.now a.i a.out.now a.to c.requires.0 c.requires.1 (omega (arith, c.well_formed)) c.put_lines-next.ensures
    c.if-next-to.true _ (search rules)

same-length-2 : tie.Need-shape_of-out
same-length-2 c = search rules

returns-2 : tie.Need-returns
returns-2 c =
    let a = c.args in
    instruction_put a.instructions.now a.i a.out.now a.to c.requires.0 c.requires.1 (omega (arith, c.well_formed)) c.put_lines-next.ensures c.if-next-to.false

pub put_instruction_spec : {M : Type 1} → statement M
put_instruction_spec =
    tie.close
    (tie.spec
    put-lines-requires
    add-result
    same_length
    returns
    same-length-2
    returns-2)
