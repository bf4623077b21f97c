-- `point_print::last_rounded` meets its contract: the test is that of its definition.
-- Assumes nothing.
use borrow.Author.Tests.{lt-ltb, le-ltb}
use borrow.Author.Rules.{rules}
use Rattle.point_print.proofs.last_rounded.Statement.{statement}
use Rattle.point_print.proofs.last_rounded.Tie as tie

add-result : tie.Need-overflow_add-result
add-result c = search rules

sub-result : tie.Need-overflow_sub-result
sub-result c = search rules

returns : tie.Need-returns-then-delta-gt65536
returns c = rw (lt-ltb 65536 c.args.delta c.if-delta-gt65536.true)

returns-2 : tie.Need-returns-else-delta-gt65536
returns-2 c = rw (le-ltb 65536 c.args.delta c.if-delta-gt65536.false)

pub last_rounded_spec : {M : Type 1} → statement M
last_rounded_spec =
    tie.close
    (tie.spec
    add-result
    sub-result
    returns
    returns-2)
