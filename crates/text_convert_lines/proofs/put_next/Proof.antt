-- `text_convert_lines::put_next` meets its contract: the line of an instruction, or the line as it stands. Assumes nothing.
use mathlib.Core.Path.{sym, ◌∙◌}
use lib.Seq.{length-take-le}
use borrow.Author.Rules.{rules}
use Rattle.text_convert_lines.proofs.Standing.{counted_next, line_is, line_stays}
use Rattle.text_convert_lines.proofs.put_next.Statement.{statement}
use Rattle.text_convert_lines.proofs.put_next.Tie as tie

instructions-in-requires : tie.Need-instructions_in-requires
instructions-in-requires c κs = search rules

put-instruction-requires : tie.Need-put_instruction-requires
put-instruction-requires c κs = search rules

same_length : tie.Need-shape_of-out-then-instructions_in-eq1
same_length c = search rules

returns : tie.Need-returns-then-instructions_in-eq1
returns c =
    let a = c.args in
    line_is a.instructions.now a.i a.text.now a.n (sym c.instructions_in.ensures ∙ c.if-instructions_in-eq1.true) c.put_instruction.ensures

slice-aggregate-put-bytes : tie.Need-slice_bounds-put_bytes-end
slice-aggregate-put-bytes c =
    sym (length-take-le c.args.n c.args.text.now c.requires.0)

put-bytes-requires : tie.Need-put_bytes-requires
put-bytes-requires c κs = search rules

same-length-2 : tie.Need-shape_of-out
same-length-2 c = search rules

returns-2 : tie.Need-returns
returns-2 c =
    let a = c.args in
    line_stays a.instructions.now a.i a.text.now a.n (λ e. c.if-instructions_in-eq1.false (c.instructions_in.ensures ∙ e)) (counted_next c.put_bytes.ensures)

pub put_next_spec : {M : Type 1} → statement M
put_next_spec =
    tie.close
    (tie.spec
    instructions-in-requires
    put-instruction-requires
    same_length
    returns
    slice-aggregate-put-bytes
    put-bytes-requires
    same-length-2
    returns-2)
