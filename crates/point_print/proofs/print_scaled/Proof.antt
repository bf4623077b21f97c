-- `point_print::print_scaled` meets its contract: the text over zeros, or zeros where the list is too short for it.
-- Assumes nothing.
use Rattle.point_print.proofs.Whole.{too_short, printed}
use borrow.Author.Rules.{rules}
use Rattle.point_print.proofs.print_scaled.Statement.{statement}
use Rattle.point_print.proofs.print_scaled.Tie as tie

zero-all-requires : tie.Need-zero_all-requires
zero-all-requires c κs = search rules

word-of-requires : tie.Need-word_of-requires
word-of-requires c κs = search rules

put-value-requires : tie.Need-put_value-count-requires
put-value-requires c κs = search rules

zero-all-requires-2 : tie.Need-zero_all-requires-then-out-count
zero-all-requires-2 c κs = search rules

same_length : tie.Need-shape_of-out-then-out-count
same_length c = search rules

returns : tie.Need-returns-then-out-count
returns c =
    too_short c.args.value c.args.out.now c.zero_all.new.s c.word_of.result c.put_value-count.result c.put_value-count.new.out
    c.ranges.value c.zero_all.ensures c.word_of.ensures c.put_value-count.ensures c.if-out-count.true c.zero_all-then-out-count.ensures

same-length-2 : tie.Need-shape_of-out
same-length-2 c = search rules

returns-2 : tie.Need-returns
returns-2 c =
    printed c.args.value c.args.out.now c.zero_all.new.s c.word_of.result c.put_value-count.result c.put_value-count.new.out
    c.ranges.value c.zero_all.ensures c.word_of.ensures c.put_value-count.ensures c.if-out-count.false

pub print_scaled_spec : {M : Type 1} → statement M
print_scaled_spec =
    tie.close
    (tie.spec
    zero-all-requires
    word-of-requires
    put-value-requires
    zero-all-requires-2
    same_length
    returns
    same-length-2
    returns-2)
