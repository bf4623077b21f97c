-- `file_sections::copy_part` meets its contract: the bytes stand in front of the part.
-- Assumes nothing.
use native.Mathlib.Omega.{arith}
use Rattle.files.specs.Sections.{file_bytes}
use Rattle.files.proofs.Parts.{length_bytes}
use Rattle.file_sections.proofs.Lending.{bytes_part}
use borrow.Author.Rules.{rules}
use Rattle.file_sections.proofs.copy_part.Statement.{statement}
use Rattle.file_sections.proofs.copy_part.Tie as tie

sub-copy-bytes : tie.Need-slice_bounds-copy_bytes-count
sub-copy-bytes c = search rules

part-copy-bytes-start : tie.Need-slice_bounds-copy_bytes-start
part-copy-bytes-start c = search rules

part-copy-bytes-end : tie.Need-slice_bounds-copy_bytes-end
part-copy-bytes-end c = search rules

sub-copy-bytes-2 : tie.Need-slice_bounds-copy_bytes-count-2
sub-copy-bytes-2 c = search rules

part-copy-bytes-start-2 : tie.Need-slice_bounds-copy_bytes-start-2
part-copy-bytes-start-2 c = search rules

part-copy-bytes-end-2 : tie.Need-slice_bounds-copy_bytes-end-2
part-copy-bytes-end-2 c = search rules

copy-bytes-requires : tie.Need-copy_bytes-requires
copy-bytes-requires c κs = search rules

same_length : tie.Need-shape_of-out
same_length c = search rules

returns : tie.Need-returns
returns c =
    let a = c.args in
    bytes_part a.at (file_bytes a.old.now a.from a.to) a.out.now c.copy_bytes.new.out
    (omega (arith, c.requires.1.1, length_bytes a.old.now a.from a.to c.requires.1.0)) c.copy_bytes.ensures

pub copy_part_spec : {M : Type 1} → statement M
copy_part_spec =
    tie.close
    (tie.spec
    sub-copy-bytes
    part-copy-bytes-start
    part-copy-bytes-end
    sub-copy-bytes-2
    part-copy-bytes-start-2
    part-copy-bytes-end-2
    copy-bytes-requires
    same_length
    returns)
