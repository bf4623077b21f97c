-- `file_checks::is_boundary_writable` meets its contract: a word below 2 ^ 31 is a number that is there.
-- Assumes nothing.
use Rattle.words.proofs.Bits.{number_pos, number_neg}
use Rattle.file_checks.proofs.is_boundary_writable.Statement.{statement}
use Rattle.file_checks.proofs.is_boundary_writable.Tie as tie

returns : tie.Need-returns-then-boundary-lt2147483648
returns c = rw (number_pos c.args.boundary c.if-boundary-lt2147483648.true)

returns-2 : tie.Need-returns
returns-2 c = rw (number_neg c.args.boundary c.if-boundary-lt2147483648.false)

pub is_boundary_writable_spec : {M : Type 1} → statement M
is_boundary_writable_spec =
    tie.close
    (tie.spec
    returns
    returns-2)
