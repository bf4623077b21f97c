-- `file_sections::put_kerns` meets its contract: the kerns stand in front of the part.
-- Assumes nothing.
use Rattle.files.specs.Sections.{kern_byte}
use Rattle.file_sections.proofs.Lending.{words_part}
use lib.ListN.{length}
use borrow.Author.Rules.{rules}
use Rattle.file_sections.proofs.put_kerns.Statement.{statement}
use Rattle.file_sections.proofs.put_kerns.Tie as tie

sub-write-words : tie.Need-slice_bounds-write_words-count
sub-write-words c = search rules

part-write-words-start : tie.Need-slice_bounds-write_words-start
part-write-words-start c = search rules

part-write-words-end : tie.Need-slice_bounds-write_words-end
part-write-words-end c = search rules

write-words-requires : tie.Need-write_words-requires
write-words-requires c κs = search rules

same_length : tie.Need-shape_of-out
same_length c = search rules

returns : tie.Need-returns
returns c =
    let a = c.args in
    words_part a.at (length a.kerns.now) (kern_byte a.kerns.now) a.out.now c.write_words.new.out c.requires
    c.write_words.ensures

pub put_kerns_spec : {M : Type 1} → statement M
put_kerns_spec =
    tie.close
    (tie.spec
    sub-write-words
    part-write-words-start
    part-write-words-end
    write-words-requires
    same_length
    returns)
