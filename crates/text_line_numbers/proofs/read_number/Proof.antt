-- `text_line_numbers::read_number` meets its contract. Assumes nothing.
use mathlib.Core.Path.{sym, ◌∙◌}
use borrow.Author.Rules.{rules}
use Rattle.text_line_numbers.proofs.read_number.Statement.{statement}
use Rattle.text_line_numbers.proofs.read_number.Tie as tie

line-ends-requires : tie.Need-line_ends-requires
line-ends-requires c κs = search rules

returns : tie.Need-returns-then-not-line_ends
returns c = let e = sym c.line_ends.ensures ∙ c.if-not-line_ends.true in rw e

read-field-requires : tie.Need-read_field-requires
read-field-requires c κs = search rules

returns-2 : tie.Need-returns
returns-2 c = let e = sym c.line_ends.ensures ∙ c.if-not-line_ends.false in rw e c.read_field.ensures

pub read_number_spec : {M : Type 1} → statement M
read_number_spec =
    tie.close
    (tie.spec
    line-ends-requires
    returns
    read-field-requires
    returns-2)
