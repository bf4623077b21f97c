-- `program_checks::is_letter` meets its contract, by its tests.
-- Assumes nothing.
use mathlib.Core.Path.{sym, ◌∙◌}
use borrow.Author.Tests.{le-leb, lt-leb}
use Rattle.lang.proofs.Checks.{letter_low, letter_high}
use Rattle.program_checks.proofs.is_letter.Statement.{statement}
use Rattle.program_checks.proofs.is_letter.Tie as tie

returns : tie.Need-returns-then-c-le55295
returns c = sym (letter_low c.args.c c.if-c-le55295.true)

returns-2 : tie.Need-returns-then-c-ge57344
returns-2 c =
    let a = c.args in
    rw (letter_high a.c c.if-c-le55295.false, le-leb 57344 a.c c.if-c-ge57344.true)

returns-3 : tie.Need-returns-else-c-ge57344
returns-3 c =
    let a = c.args in
    rw (letter_high a.c c.if-c-le55295.false, lt-leb 57344 a.c c.if-c-ge57344.false)

pub is_letter_spec : {M : Type 1} → statement M
is_letter_spec =
    tie.close
    (tie.spec
    returns
    returns-2
    returns-3)
