-- `pl_apply::is_size` meets its contract. Assumes nothing.
use borrow.Author.Rules.{rules}
use Rattle.pl_apply.proofs.is_size.Statement.{statement}
use Rattle.pl_apply.proofs.is_size.Tie as tie

least-bytes-requires : tie.Need-least_bytes-requires
least-bytes-requires c κs = search rules

sub-result : tie.Need-overflow_sub-result
sub-result c = search rules

returns : tie.Need-returns
returns c = rw c.least_bytes.ensures.0

pub is_size_spec : {M : Type 1} → statement M
is_size_spec =
    tie.close
    (tie.spec
    least-bytes-requires
    sub-result
    returns)
