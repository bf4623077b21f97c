-- `read_step::count_after` meets its contract.
-- Assumes nothing.
use Rattle.read_step.proofs.Stepping.{count_less, count_more}
use borrow.Author.Rules.{rules}
use Rattle.read_step.proofs.count_after.Statement.{statement}
use Rattle.read_step.proofs.count_after.Tie as tie

sub-result : tie.Need-overflow_sub-result
sub-result c = search rules

add-result : tie.Need-overflow_add-result
add-result c = search rules

add-result-2 : tie.Need-overflow_add-result-then-change-eq0
add-result-2 c = search rules

sub-result-2 : tie.Need-overflow_sub-result-else-change-eq0
sub-result-2 c = search rules

add-result-3 : tie.Need-overflow_add-result-else-change-eq0
add-result-3 c = search rules

add-result-4 : tie.Need-overflow_add-result-else-change-eq0-2
add-result-4 c = search rules

returns : tie.Need-returns-then-change-eq0
returns c =
    let a = c.args in
    count_less a.count a.change c.if-change-eq0.true

returns-2 : tie.Need-returns-else-change-eq0
returns-2 c =
    count_more c.args.count c.args.change c.if-change-eq0.false c.requires.0

pub count_after_spec : {M : Type 1} → statement M
count_after_spec =
    tie.close
    (tie.spec
    sub-result
    add-result
    add-result-2
    sub-result-2
    add-result-3
    add-result-4
    returns
    returns-2)
