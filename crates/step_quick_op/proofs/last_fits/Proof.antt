-- `step_quick_op::last_fits` meets its contract: each return by the tests, of the words that were read, that lead to it.
-- Assumes nothing.
use Rattle.captions.specs.Tables.{number}
use Rattle.table_numbers.proofs.Records.{no_code, no_flag, flagged, unflagged}
use borrow.Author.Rules.{rules}
use Rattle.step_quick_op.proofs.last_fits.Statement.{statement}
use Rattle.step_quick_op.proofs.last_fits.Tie as tie

number-in-requires : tie.Need-number_in-code-requires
number-in-requires c κs = search rules

returns : tie.Need-returns-then-code-gt255
returns c =
    let a = c.args in
    no_code (number a.pairs.now a.k 2) (number a.pairs.now a.k 3) (number a.pairs.now a.k 1) c.number_in-code.result 0 0 c.number_in-code.ensures
    c.if-code-gt255.true

number-in-requires-2 : tie.Need-number_in-flag-requires
number-in-requires-2 c κs = search rules

returns-2 : tie.Need-returns-then-flag-gt1
returns-2 c =
    let a = c.args in
    no_flag (number a.pairs.now a.k 2) (number a.pairs.now a.k 3) (number a.pairs.now a.k 1) c.number_in-code.result c.number_in-flag.result 0 c.number_in-code.ensures
    c.if-code-gt255.false c.number_in-flag.ensures c.if-flag-gt1.true

returns-3 : tie.Need-returns-then-flag-eq1
returns-3 c =
    let a = c.args in
    flagged (number a.pairs.now a.k 2) (number a.pairs.now a.k 3) (number a.pairs.now a.k 1) c.number_in-code.result c.number_in-flag.result 0 c.number_in-code.ensures
    c.if-code-gt255.false c.number_in-flag.ensures c.if-flag-gt1.false c.if-flag-eq1.true

number-in-requires-3 : tie.Need-number_in-requires
number-in-requires-3 c κs = search rules

returns-4 : tie.Need-returns
returns-4 c =
    let a = c.args in
    unflagged (number a.pairs.now a.k 2) (number a.pairs.now a.k 3) (number a.pairs.now a.k 1) c.number_in-code.result c.number_in-flag.result c.number_in.result
    c.number_in-code.ensures c.if-code-gt255.false c.number_in-flag.ensures c.if-flag-gt1.false c.if-flag-eq1.false c.number_in.ensures

pub last_fits_spec : {M : Type 1} → statement M
last_fits_spec =
    tie.close
    (tie.spec
    number-in-requires
    returns
    number-in-requires-2
    returns-2
    returns-3
    number-in-requires-3
    returns-4)
