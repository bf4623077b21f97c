-- `read_step::change_items` meets its contract: what passes the items goes, then the right and the left that do not stay, and what is inserted comes in.
-- Assumes nothing.
use Rattle.read_step.proofs.Changing.{changed_less, changed_more}
use borrow.Author.Rules.{rules}
use Rattle.read_step.proofs.change_items.Statement.{statement}
use Rattle.read_step.proofs.change_items.Tie as tie

mul-remove : tie.Need-overflow_mul-count
mul-remove c = search rules

mul-remove-2 : tie.Need-overflow_mul-count-2
mul-remove-2 c = search rules

sub-remove : tie.Need-overflow_sub-room
sub-remove c = search rules

remove-requires : tie.Need-remove-requires
remove-requires c κs = search rules

mul-remove-3 : tie.Need-overflow_mul-cursor
mul-remove-3 c = search rules

add-remove : tie.Need-overflow_add-cursor
add-remove c = search rules

mul-remove-4 : tie.Need-overflow_mul-change
mul-remove-4 c = search rules

sub-remove-2 : tie.Need-overflow_sub-change
sub-remove-2 c = search rules

remove-requires-2 : tie.Need-remove-requires-2
remove-requires-2 c κs = search rules

mul-remove-5 : tie.Need-overflow_mul-cursor-2
mul-remove-5 c = search rules

mul-remove-6 : tie.Need-overflow_mul-change-2
mul-remove-6 c = search rules

sub-remove-3 : tie.Need-overflow_sub-change-2
sub-remove-3 c = search rules

remove-requires-3 : tie.Need-remove-requires-3
remove-requires-3 c κs = search rules

same_length : tie.Need-shape_of-items-then-change-eq0
same_length c = search rules

returns : tie.Need-returns-then-change-eq0
returns c =
    let a = c.args in
    changed_less a.change a.items.now a.count a.cursor c.requires.there c.requires.within c.requires.left c.requires.right c.remove.new.s
    c.remove-2.new.s c.remove-3.new.s c.remove.ensures c.remove-2.ensures c.remove-3.ensures c.if-change-eq0.true

mul-insert : tie.Need-overflow_mul-cursor-3
mul-insert c = search rules

mul-insert-2 : tie.Need-overflow_mul-change-3
mul-insert-2 c = search rules

add-insert : tie.Need-overflow_add-cursor-2
add-insert c = search rules

insert-requires : tie.Need-insert-requires
insert-requires c κs = search rules

same-length-2 : tie.Need-shape_of-items
same-length-2 c = search rules

returns-2 : tie.Need-returns
returns-2 c =
    let a = c.args in
    changed_more a.change a.items.now a.count a.cursor c.requires.there c.requires.within c.requires.left c.requires.right c.remove.new.s
    c.remove-2.new.s c.remove-3.new.s c.remove.ensures c.remove-2.ensures c.remove-3.ensures c.insert.new.s
    c.if-change-eq0.false c.requires.kind c.requires.room c.insert.ensures

pub change_items_spec : {M : Type 1} → statement M
change_items_spec =
    tie.close
    (tie.spec
    mul-remove
    mul-remove-2
    sub-remove
    remove-requires
    mul-remove-3
    add-remove
    mul-remove-4
    sub-remove-2
    remove-requires-2
    mul-remove-5
    mul-remove-6
    sub-remove-3
    remove-requires-3
    same_length
    returns
    mul-insert
    mul-insert-2
    add-insert
    insert-requires
    same-length-2
    returns-2)
