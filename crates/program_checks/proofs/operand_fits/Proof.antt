-- `program_checks::operand_fits` meets its contract: one return for each kind.
-- Assumes nothing.
use mathlib.Core.Path.{sym}
use borrow.Author.Rules.{rules}
use Rattle.words.specs.Words.{number_of}
use Rattle.lang.proofs.Records.{operand_none}
use Rattle.program_checks.proofs.operand_fits.Statement.{statement}
use Rattle.program_checks.proofs.operand_fits.Tie as tie

returns : tie.Need-returns-then-kind-eq0
returns c = rw c.if-kind-eq0.true

is-within-requires : tie.Need-is_within-requires
is-within-requires c κs = search rules

returns-2 : tie.Need-returns-then-kind-eq1
returns-2 c = rw c.if-kind-eq1.true c.is_within.ensures

is-within-requires-2 : tie.Need-is_within-requires-then-kind-eq2
is-within-requires-2 c κs = search rules

returns-3 : tie.Need-returns-then-kind-eq2
returns-3 c = rw c.if-kind-eq2.true c.is_within-then-kind-eq2.ensures

is-within-requires-3 : tie.Need-is_within-requires-then-kind-eq3
is-within-requires-3 c κs = search rules

returns-4 : tie.Need-returns-then-kind-eq3
returns-4 c = rw c.if-kind-eq3.true c.is_within-then-kind-eq3.ensures

returns-5 : tie.Need-returns
returns-5 c =
    let a = c.args in
    sym (operand_none a.kind (number_of a.word) c.if-kind-eq0.false c.if-kind-eq1.false c.if-kind-eq2.false
    c.if-kind-eq3.false)

pub operand_fits_spec : {M : Type 1} → statement M
operand_fits_spec =
    tie.close
    (tie.spec
    returns
    is-within-requires
    returns-2
    is-within-requires-2
    returns-3
    is-within-requires-3
    returns-4
    returns-5)
