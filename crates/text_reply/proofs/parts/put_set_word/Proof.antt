-- `text_reply::parts::put_set_word` meets its contract: W and its number, then T for each item; nothing where the length is negative.
-- Assumes nothing.
use mathlib.Core.Path.{sym, ap}
use lib.Seq.{sets}
use Rattle.words.specs.Words.{word_of, number_of}
use Rattle.lang.proofs.Records.{number_stored}
use Rattle.text_reply.proofs.Whole.{no_word, word_put}
use borrow.Author.Rules.{rules}
use Rattle.text_reply.proofs.parts.put_set_word.Statement.{statement}
use Rattle.text_reply.proofs.parts.put_set_word.Tie as tie

number-of-requires : tie.Need-number_of-requires
number-of-requires c κs = search rules

slice-aggregate-put-lines : tie.Need-slice_bounds-put_lines-end
slice-aggregate-put-lines c = search rules

put-lines-requires : tie.Need-put_lines-next-requires
put-lines-requires c κs = search rules

put-lines-requires-2 : tie.Need-put_lines-requires
put-lines-requires-2 c κs = search rules

same_length : tie.Need-shape_of-out
same_length c = search rules

returns : tie.Need-returns-then-letters-lt2147483648
returns c =
    word_put c.args.letters c.args.items.now c.if-letters-lt2147483648.true c.args.out.now c.args.at c.requires (number_of (word_of c.number_of.result))
    (number_stored c.args.letters c.number_of.result c.number_of.ensures c.ranges.letters.fits) c.put_lines-next.new.out c.put_lines-next.result
    c.put_lines-next.ensures c.put_lines.new.out c.put_lines.result c.put_lines.ensures

returns-2 : tie.Need-returns-else-letters-lt2147483648
returns-2 c =
    let a = c.args in
    sym (ap (sets a.out.now a.at) (no_word a.letters a.items.now c.if-letters-lt2147483648.false))

pub put_set_word_spec : {M : Type 1} → statement M
put_set_word_spec =
    tie.close
    (tie.spec
    number-of-requires
    slice-aggregate-put-lines
    put-lines-requires
    put-lines-requires-2
    same_length
    returns
    returns-2)
