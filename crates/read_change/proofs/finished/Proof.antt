-- `read_change::finished` meets its contract.
-- Assumes nothing.
use Rattle.read_change.proofs.Placing.{finished_boundary}
use borrow.Author.Rules.{rules}
use Rattle.read_change.proofs.finished.Statement.{statement}
use Rattle.read_change.proofs.finished.Tie as tie

smaller-requires : tie.Need-min-gone-requires
smaller-requires c κs = search rules

sub-change-of : tie.Need-overflow_sub-done
sub-change-of c = search rules

sub-change-of-2 : tie.Need-overflow_sub-done-then-boundary
sub-change-of-2 c = search rules

change-of-requires : tie.Need-change_of-requires
change-of-requires c κs = search rules

returns : tie.Need-returns-then-boundary
returns c =
    let a = c.args in
    finished_boundary a.boundary a.done c.change_of.result c.min-gone.result c.if-boundary.true c.min-gone.ensures c.change_of.ensures

returns-2 : tie.Need-returns
returns-2 c = search rules

pub finished_spec : {M : Type 1} → statement M
finished_spec =
    tie.close
    (tie.spec
    smaller-requires
    sub-change-of
    sub-change-of-2
    change-of-requires
    returns
    returns-2)
