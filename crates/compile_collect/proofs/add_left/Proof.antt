-- `compile_collect::add_left` meets its contract: a left with no entry has no pairs; the chain of one that has is walked once, and its rows follow
-- those of the lefts before it, with their order.
-- Assumes nothing.
use Rattle.compiling.proofs.PairRowLaws.{adds_none, adds_over}
use Rattle.compile_collect.proofs.Placing.{adds_left}
use borrow.Author.Rules.{rules}
use Rattle.compile_collect.proofs.add_left.Statement.{statement}
use Rattle.compile_collect.proofs.add_left.Tie as tie

entry-of-requires : tie.Need-entry_of-entry-requires
entry-of-requires c κs = search rules

returns : tie.Need-returns-then-entry-ge2147483648
returns c =
    adds_none c.args.instructions.now c.args.table.now c.args.left c.entry_of-entry.result c.entry_of-entry.ensures c.args.n c.args.cap
    c.args.work.now c.requires c.if-entry-ge2147483648.true

cast-survey : tie.Need-overflow_cast-entry
cast-survey c = search rules

survey-requires : tie.Need-survey-m-requires
survey-requires c κs = search rules

sub-if2 : tie.Need-overflow_sub-cap
sub-if2 c = search rules

returns-2 : tie.Need-returns-then-cap-n
returns-2 c =
    let f = c.survey-m.ensures in
    adds_over c.args.instructions.now c.args.table.now c.args.left c.args.n c.survey-m.result c.args.cap c.entry_of-entry.result
    f.first f.order c.args.work.now c.requires c.entry_of-entry.ensures c.if-entry-ge2147483648.false f.surveyed c.if-cap-n.true

cast-add-rows : tie.Need-overflow_cast-n
cast-add-rows c = search rules

cast-add-rows-2 : tie.Need-overflow_cast-left
cast-add-rows-2 c = search rules

add-rows-requires : tie.Need-add_rows-requires
add-rows-requires c κs = search rules

add-t13 : tie.Need-overflow_add-result
add-t13 c = search rules

same_length : tie.Need-shape_of-work
same_length c = search rules

returns-3 : tie.Need-returns
returns-3 c =
    let o = c.survey-m.new in
    adds_left c.args.instructions.now c.args.table.now c.args.left c.args.n c.survey-m.result c.args.cap c.entry_of-entry.result
    c.args.places.now c.args.indices.now o.places o.indices o.rights c.args.work.now c.requires c.entry_of-entry.ensures c.if-entry-ge2147483648.false
    c.survey-m.ensures c.add_rows.new.work c.if-cap-n.false
    c.add_rows.ensures

pub add_left_spec : {M : Type 1} → statement M
add_left_spec =
    tie.close
    (tie.spec
    entry-of-requires
    returns
    cast-survey
    survey-requires
    sub-if2
    returns-2
    cast-add-rows
    cast-add-rows-2
    add-rows-requires
    add-t13
    same_length
    returns-3)
