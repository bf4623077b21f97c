-- `file_lengths::lengths_of` meets its contract: each length is read.
-- Assumes nothing.
use borrow.Author.Rules.{rules}
use Rattle.file_lengths.proofs.lengths_of.Statement.{statement}
use Rattle.file_lengths.proofs.lengths_of.Tie as tie

file-half-requires : tie.Need-file_half-requires
file-half-requires c κs = search rules

file-half-requires-2 : tie.Need-file_half-requires-2
file-half-requires-2 c κs = search rules

file-half-requires-3 : tie.Need-file_half-requires-3
file-half-requires-3 c κs = search rules

file-half-requires-4 : tie.Need-file_half-requires-4
file-half-requires-4 c κs = search rules

file-half-requires-5 : tie.Need-file_half-requires-5
file-half-requires-5 c κs = search rules

file-half-requires-6 : tie.Need-file_half-requires-6
file-half-requires-6 c κs = search rules

file-half-requires-7 : tie.Need-file_half-requires-7
file-half-requires-7 c κs = search rules

file-half-requires-8 : tie.Need-file_half-requires-8
file-half-requires-8 c κs = search rules

file-half-requires-9 : tie.Need-file_half-requires-9
file-half-requires-9 c κs = search rules

file-half-requires-10 : tie.Need-file_half-requires-10
file-half-requires-10 c κs = search rules

file-half-requires-11 : tie.Need-file_half-requires-11
file-half-requires-11 c κs = search rules

file-half-requires-12 : tie.Need-file_half-requires-12
file-half-requires-12 c κs = search rules

returns : tie.Need-returns
returns c =
    rw (
      c.file_half.ensures,
      c.file_half-2.ensures,
      c.file_half-3.ensures,
      c.file_half-4.ensures,
      c.file_half-5.ensures,
      c.file_half-6.ensures,
      c.file_half-7.ensures,
      c.file_half-8.ensures,
      c.file_half-9.ensures,
      c.file_half-10.ensures,
      c.file_half-11.ensures,
      c.file_half-12.ensures,
    )

pub lengths_of_spec : {M : Type 1} → statement M
lengths_of_spec =
    tie.close
    (tie.spec
    file-half-requires
    file-half-requires-2
    file-half-requires-3
    file-half-requires-4
    file-half-requires-5
    file-half-requires-6
    file-half-requires-7
    file-half-requires-8
    file-half-requires-9
    file-half-requires-10
    file-half-requires-11
    file-half-requires-12
    returns)
