-- `test_file_reading::read_within` lends no more than there is, and stays within the answer as `read_into` does.
-- Assumes nothing.
use mathlib.Core.Path.{sym}
use lib.Seq.{length-take-le}
use borrow.Author.Rules.{rules}
use Rattle.test_file_reading.proofs.read_within.Statement.{statement}
use Rattle.test_file_reading.proofs.read_within.Tie as tie

word-at-requires : tie.Need-word_at-requires
word-at-requires c κs = search rules

within-requires : tie.Need-within-a-requires
within-requires c κs = search rules

word-at-requires-2 : tie.Need-word_at-requires-2
word-at-requires-2 c κs = search rules

within-requires-2 : tie.Need-within-b-requires
within-requires-2 c κs = search rules

word-at-requires-3 : tie.Need-word_at-requires-3
word-at-requires-3 c κs = search rules

within-requires-3 : tie.Need-within-c-requires
within-requires-3 c κs = search rules

slice-relend-prefix-read-into : tie.Need-slice_bounds-read_into-end
slice-relend-prefix-read-into c = search rules

slice-aggregate-read-into : tie.Need-slice_bounds-read_into-end-2
slice-aggregate-read-into c = sym (length-take-le _ _ (search rules))

slice-relend-prefix-read-into-2 : tie.Need-slice_bounds-read_into-end-3
slice-relend-prefix-read-into-2 c = search rules

slice-aggregate-read-into-2 : tie.Need-slice_bounds-read_into-end-4
slice-aggregate-read-into-2 c = sym (length-take-le _ _ (search rules))

slice-relend-prefix-read-into-3 : tie.Need-slice_bounds-read_into-end-5
slice-relend-prefix-read-into-3 c = search rules

slice-aggregate-read-into-3 : tie.Need-slice_bounds-read_into-end-6
slice-aggregate-read-into-3 c = sym (length-take-le _ _ (search rules))

read-into-requires : tie.Need-read_into-requires
read-into-requires c κs = search rules

same_length : tie.Need-shape_of-instructions
same_length c = search rules

same-length-2 : tie.Need-shape_of-kerns
same-length-2 c = search rules

same-length-3 : tie.Need-shape_of-entries
same-length-3 c = search rules

same-length-4 : tie.Need-shape_of-out
same-length-4 c = search rules

returns : tie.Need-returns
returns c = search rules

pub read_within_spec : {M : Type 1} → statement M
read_within_spec =
    tie.close
    (tie.spec
    word-at-requires
    within-requires
    word-at-requires-2
    within-requires-2
    word-at-requires-3
    within-requires-3
    slice-relend-prefix-read-into
    slice-aggregate-read-into
    slice-relend-prefix-read-into-2
    slice-aggregate-read-into-2
    slice-relend-prefix-read-into-3
    slice-aggregate-read-into-3
    read-into-requires
    same_length
    same-length-2
    same-length-3
    same-length-4
    returns)
