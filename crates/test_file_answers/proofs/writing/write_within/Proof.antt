-- `test_file_answers::writing::write_within` lends no more than there is.
-- Assumes nothing.
use mathlib.Core.Path.{sym}
use lib.Seq.{length-take-le}
use borrow.Author.Rules.{rules}
use Rattle.test_file_answers.proofs.writing.write_within.Statement.{statement}
use Rattle.test_file_answers.proofs.writing.write_within.Tie as tie

word-at-requires : tie.Need-word_at-requires
word-at-requires c κs = search rules

within-requires : tie.Need-within-room-requires
within-requires c κs = search rules

slice-relend-prefix-write-program : tie.Need-slice_bounds-write_program-end
slice-relend-prefix-write-program c = search rules

slice-aggregate-write-program : tie.Need-slice_bounds-write_program-end-2
slice-aggregate-write-program c = sym (length-take-le _ _ (search rules))

write-program-requires : tie.Need-write_program-answer-requires
write-program-requires c κs = search rules

front-requires : tie.Need-front-requires
front-requires c κs = search rules

put-written-requires : tie.Need-put_written-requires
put-written-requires c κs = search rules

same_length : tie.Need-shape_of-new
same_length c = search rules

same-length-2 : tie.Need-shape_of-out
same-length-2 c = search rules

returns : tie.Need-returns
returns c = search rules

pub write_within_spec : {M : Type 1} → statement M
write_within_spec =
    tie.close
    (tie.spec
    word-at-requires
    within-requires
    slice-relend-prefix-write-program
    slice-aggregate-write-program
    write-program-requires
    front-requires
    put-written-requires
    same_length
    same-length-2
    returns)
