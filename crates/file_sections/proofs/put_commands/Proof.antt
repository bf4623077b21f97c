-- `file_sections::put_commands` meets its contract: the words stand in front of the part.
-- Assumes nothing.
use mathlib.Core.Path.{ap, ◌∙◌}
use mathlib.Core.List.{List}
use Prim.Native.Nat.{ℕ, ◌-◌}
use lib.IntN.{ℤ}
use lib.ListN.{length}
use borrow.Rule.Slice.PartMut.{mid_of}
use Rattle.words.proofs.Bits.{number_word}
use Rattle.lang.specs.Records.{count}
use Rattle.files.specs.Sections.{command_byte, words_in_front}
use Rattle.file_sections.proofs.Lending.{words_part}
use borrow.Author.Rules.{rules}
use Rattle.file_sections.proofs.put_commands.Statement.{statement}
use Rattle.file_sections.proofs.put_commands.Tie as tie

sub-write-commands : tie.Need-slice_bounds-write_commands-count
sub-write-commands c = search rules

part-write-commands-start : tie.Need-slice_bounds-write_commands-start
part-write-commands-start c = search rules

part-write-commands-end : tie.Need-slice_bounds-write_commands-end
part-write-commands-end c = search rules

write-commands-requires : tie.Need-write_commands-requires
write-commands-requires c κs = search rules

same_length : tie.Need-shape_of-out
same_length c = search rules

returns : tie.Need-returns
returns c =
    let a = c.args in
    words_part a.at (count a.program.now) (command_byte a.program.now a.boundary) a.out.now c.write_commands.new.out
    c.requires
    (c.write_commands.ensures
    ∙ ap (λ (b : ℤ). words_in_front (count a.program.now) (command_byte a.program.now b) (mid_of a.at (length a.out.now - a.at) a.out.now))
    (number_word a.boundary c.ranges.boundary))

pub put_commands_spec : {M : Type 1} → statement M
put_commands_spec =
    tie.close
    (tie.spec
    sub-write-commands
    part-write-commands-start
    part-write-commands-end
    write-commands-requires
    same_length
    returns)
