-- `file_sections::put_chars` meets its contract: the words stand in front of the part.
-- Assumes nothing.
use Prim.Native.Nat.{◌+◌}
use lib.IntN.{negsuc}
use lib.ListN.{get_or}
use Rattle.files.specs.Lengths.{char_count, char_start}
use Rattle.files.specs.Sections.{char_byte}
use Rattle.file_sections.proofs.Lending.{words_part}
use borrow.Author.Rules.{rules}
use Rattle.file_sections.proofs.put_chars.Statement.{statement}
use Rattle.file_sections.proofs.put_chars.Tie as tie

sub-write-chars : tie.Need-slice_bounds-write_chars-count
sub-write-chars c = search rules

part-write-chars-start : tie.Need-slice_bounds-write_chars-start
part-write-chars-start c = search rules

part-write-chars-end : tie.Need-slice_bounds-write_chars-end
part-write-chars-end c = search rules

write-chars-requires : tie.Need-write_chars-requires
write-chars-requires c κs = search rules

same_length : tie.Need-shape_of-out
same_length c = search rules

returns : tie.Need-returns
returns c =
    let a = c.args in
    words_part a.at (char_count a.l) (λ i. char_byte a.old.now (get_or a.table.now (a.l.bc + i) (negsuc 0)) (char_start a.l + i)) a.out.now
    c.write_chars.new.out c.requires c.write_chars.ensures

pub put_chars_spec : {M : Type 1} → statement M
put_chars_spec =
    tie.close
    (tie.spec
    sub-write-chars
    part-write-chars-start
    part-write-chars-end
    write-chars-requires
    same_length
    returns)
