-- `pl_write_refusals::is_left_shown` meets its contract.
-- Assumes nothing.
use native.Mathlib.Omega.{arith}
use Rattle.pl_write_refusals.proofs.Shown.{left_absent, left_there}
use Rattle.pl_write_refusals.proofs.is_left_shown.Statement.{statement}
use Rattle.pl_write_refusals.proofs.is_left_shown.Tie as tie

returns : tie.Need-returns-then-left-ge2147483648
returns c =
    left_absent c.args.n c.args.left c.if-left-ge2147483648.true

returns-2 : tie.Need-returns
returns-2 c =
    left_there c.args.n c.args.left (omega (arith, c.if-left-ge2147483648.false))

pub is_left_shown_spec : {M : Type 1} → statement M
is_left_shown_spec =
    tie.close
    (tie.spec
    returns
    returns-2)
