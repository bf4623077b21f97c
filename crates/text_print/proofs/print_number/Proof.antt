-- `text_print::print_number` meets its contract: what stands there, or the line N over it.
-- Assumes nothing.
use borrow.Author.Rules.{rules}
use Rattle.words.specs.Words.{Word}
use Rattle.lang.proofs.Records.{word_passed}
use Rattle.text_print.proofs.Laws.{length_printed, number_printed}
use Rattle.text_print.proofs.print_number.Statement.{statement}
use Rattle.text_print.proofs.print_number.Tie as tie

abbrev start : tie.After-word_of-w → tie.Start
start v = v.before.before

word : (v : tie.After-word_of-w) → Word (start v).args.answer v.word_of-w.result
word v = word_passed (start v).ranges.answer v.word_of-w.ensures

word-of-requires : tie.Need-word_of-w-requires
word-of-requires c κs = search rules

cast-result : tie.Need-overflow_cast-result
cast-result c = search rules

returns : tie.Need-returns-then-w-lt2147483648
returns c = length_printed (word (c.before)) (start (c.before)).args.out.now c.if-w-lt2147483648.true

sub-number-of : tie.Need-overflow_sub-w
sub-number-of c = search rules

add-number-of : tie.Need-overflow_add-w
add-number-of c = search rules

number-of-requires : tie.Need-number_of-requires
number-of-requires c κs = search rules

slice-aggregate-put-lines : tie.Need-slice_bounds-put_lines-end
slice-aggregate-put-lines c = search rules

put-lines-requires : tie.Need-put_lines-requires
put-lines-requires c κs = search rules

same_length : tie.Need-shape_of-out
same_length c = search rules

returns-2 : tie.Need-returns
returns-2 c =
    number_printed (word (c.before.before.before.before.before.before.before)) (start (c.before.before.before.before.before.before.before)).args.out.now (start (c.before.before.before.before.before.before.before)).requires.1 (start (c.before.before.before.before.before.before.before)).requires.0 c.if-w-lt2147483648.false c.number_of.result c.number_of.ensures
    c.put_lines.result c.put_lines.new.out c.put_lines.ensures

pub print_number_spec : {M : Type 1} → statement M
print_number_spec =
    tie.close
    (tie.spec
    word-of-requires
    cast-result
    returns
    sub-number-of
    add-number-of
    number-of-requires
    slice-aggregate-put-lines
    put-lines-requires
    same_length
    returns-2)
