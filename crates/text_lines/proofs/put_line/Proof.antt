-- `text_lines::put_line` meets its contract: the letter, the fields, a line feed.
-- Assumes nothing.
use mathlib.Core.Path.{◌∙◌}
use Prim.Native.Nat.{◌+◌, ◌*◌}
use native.Mathlib.Omega.{arith}
use lib.ListN.{length, set, length-set}
use Rattle.text_justify.specs.InFields.{numbers_from}
use Rattle.text_justify.proofs.Fit.{fit_is, fits_where}
use Rattle.text_lines.proofs.Steps.{line_puts}
use borrow.Author.Rules.{rules}
use Rattle.text_lines.proofs.put_line.Statement.{statement}
use Rattle.text_lines.proofs.put_line.Tie as tie

slice-write-out : tie.Need-bounds-out-at
slice-write-out c = search rules

add-put-fields : tie.Need-overflow_add-at
add-put-fields c = search rules

put-fields-requires : tie.Need-put_fields-requires
put-fields-requires c κs = search rules

add-out : tie.Need-overflow_add-out
add-out c = search rules

mul-out : tie.Need-overflow_mul-out
mul-out c = search rules

add-out-2 : tie.Need-overflow_add-out-2
add-out-2 c = search rules

slice-write-out-2 : tie.Need-bounds-out-at-2
slice-write-out-2 c =
    omega (arith, c.put_fields.auto.out, length-set c.args.out.now c.args.at c.args.letter, c.requires.2)

add-result : tie.Need-overflow_add-result
add-result c = search rules

mul-result : tie.Need-overflow_mul-result
mul-result c = search rules

add-result-2 : tie.Need-overflow_add-result-2
add-result-2 c = search rules

same_length : tie.Need-shape_of-out
same_length c =
    let a = c.args in
    length-set c.put_fields.new.out (a.at + 1 + 12 * a.n) 10 ∙ c.put_fields.auto.out ∙ length-set a.out.now a.at a.letter

returns : tie.Need-returns
returns c =
    let a = c.args in
    let l = set a.out.now a.at a.letter in
    let fits = fit_is 18446744073709551609 a.from a.n (a.at + 1) (length l) c.requires.0 (omega (arith, c.requires.1))
    (omega (arith, length-set a.out.now a.at a.letter, c.requires.2)) in
    line_puts a.letter a.numbers.now a.from a.n a.out.now c.put_fields.new.out a.at
    (fits_where l (a.at + 1) (numbers_from a.numbers.now a.from a.n) fits c.put_fields.ensures)

pub put_line_spec : {M : Type 1} → statement M
put_line_spec =
    tie.close
    (tie.spec
    slice-write-out
    add-put-fields
    put-fields-requires
    add-out
    mul-out
    add-out-2
    slice-write-out-2
    add-result
    mul-result
    add-result-2
    same_length
    returns)
