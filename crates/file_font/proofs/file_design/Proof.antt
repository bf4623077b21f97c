-- `file_font::file_design` meets its contract: the number of the word.
-- Assumes nothing.
use native.Mathlib.Omega.{arith}
use borrow.Author.Rules.{rules}
use Rattle.file_reading.proofs.Reading.{answered}
use Rattle.file_font.proofs.file_design.Statement.{statement}
use Rattle.file_font.proofs.file_design.Tie as tie

design-word-requires : tie.Need-design_word-requires
design-word-requires c κs = search rules

number-of-requires : tie.Need-number_of-requires
number-of-requires c κs = search rules

returns : tie.Need-returns
returns c = answered c.design_word.result (omega arith) c.number_of.ensures c.design_word.ensures

pub file_design_spec : {M : Type 1} → statement M
file_design_spec =
    tie.close
    (tie.spec
    design-word-requires
    number-of-requires
    returns)
