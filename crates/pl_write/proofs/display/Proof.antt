-- `pl_write::display` meets its contract: the text over zeros, or zeros where it is refused.
-- Assumes nothing.
use Rattle.pl_write.proofs.Whole.{refused, too_short, displayed}
use borrow.Author.Rules.{rules}
use Rattle.pl_write.proofs.display.Statement.{statement}
use Rattle.pl_write.proofs.display.Tie as tie

zero-all-requires : tie.Need-zero_all-requires
zero-all-requires c κs = search rules

display-fault-requires : tie.Need-display_fault-fault-requires
display-fault-requires c κs = search rules

same_length : tie.Need-shape_of-text-then-fault-ne0
same_length c = search rules

returns : tie.Need-returns-then-fault-ne0
returns c =
    refused c.args.instructions.now c.args.kerns.now c.args.entries.now c.args.boundary c.args.left_entry
    c.args.text.now c.zero_all.new.s c.display_fault-fault.result c.ranges.boundary c.ranges.left_entry c.zero_all.ensures
    c.display_fault-fault.ensures c.if-fault-ne0.true

put-display-requires : tie.Need-put_display-count-requires
put-display-requires c κs = search rules

zero-all-requires-2 : tie.Need-zero_all-requires-then-text-count
zero-all-requires-2 c κs = search rules

same-length-2 : tie.Need-shape_of-text-then-text-count
same-length-2 c = search rules

returns-2 : tie.Need-returns-then-text-count
returns-2 c =
    too_short c.args.instructions.now c.args.kerns.now c.args.entries.now c.args.boundary c.args.left_entry
    c.args.text.now c.zero_all.new.s c.display_fault-fault.result c.ranges.boundary c.ranges.left_entry c.zero_all.ensures
    c.display_fault-fault.ensures c.if-fault-ne0.false c.put_display-count.ensures c.if-text-count.true c.zero_all-then-text-count.ensures

same-length-3 : tie.Need-shape_of-text
same-length-3 c = search rules

returns-3 : tie.Need-returns
returns-3 c =
    displayed c.args.instructions.now c.args.kerns.now c.args.entries.now c.args.boundary c.args.left_entry
    c.args.text.now c.zero_all.new.s c.display_fault-fault.result c.ranges.boundary c.ranges.left_entry c.zero_all.ensures
    c.display_fault-fault.ensures c.if-fault-ne0.false c.put_display-count.ensures c.if-text-count.false

pub display_spec : {M : Type 1} → statement M
display_spec =
    tie.close
    (tie.spec
    zero-all-requires
    display-fault-requires
    same_length
    returns
    put-display-requires
    zero-all-requires-2
    same-length-2
    returns-2
    same-length-3
    returns-3)
