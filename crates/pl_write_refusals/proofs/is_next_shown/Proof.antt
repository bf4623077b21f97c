-- `pl_write_refusals::is_next_shown` meets its contract.
-- Assumes nothing.
use native.Mathlib.Omega.{arith}
use Rattle.pl_write_refusals.proofs.Shown.{next_absent, next_far, next_there}
use borrow.Author.Rules.{rules}
use Rattle.pl_write_refusals.proofs.is_next_shown.Statement.{statement}
use Rattle.pl_write_refusals.proofs.is_next_shown.Tie as tie

returns : tie.Need-returns-then-next-ge2147483648
returns c =
    next_absent c.args.n c.args.i c.args.next c.if-next-ge2147483648.true

returns-2 : tie.Need-returns-then-next-gt127
returns-2 c =
    next_far c.args.n c.args.i c.args.next (omega (arith, c.if-next-ge2147483648.false)) c.if-next-gt127.true

sub-result : tie.Need-overflow_sub-result
sub-result c = search rules

sub-result-2 : tie.Need-overflow_sub-result-2
sub-result-2 c = search rules

returns-3 : tie.Need-returns
returns-3 c =
    next_there c.args.n c.args.i c.args.next c.requires (omega (arith, c.if-next-gt127.false))

pub is_next_shown_spec : {M : Type 1} → statement M
is_next_shown_spec =
    tie.close
    (tie.spec
    returns
    returns-2
    sub-result
    sub-result-2
    returns-3)
