-- `file_sections::write_middle` meets its contract: the dimensions go on where the characters end.
-- Assumes nothing.
use mathlib.Core.Path.{ap, ◌∙◌}
use Prim.Native.Nat.{ℕ, ◌+◌, ◌*◌}
use native.Mathlib.Omega.{arith}
use lib.Seq.{sets}
use Rattle.files.specs.Lengths.{char_count, char_start}
use Rattle.files.specs.Sections.{file_bytes, section_bytes}
use Rattle.files.proofs.Parts.{length_section}
use Rattle.files.specs.Writing.{written_char, old_dimensions}
use Rattle.file_sections.proofs.Lending.{runs_join}
use borrow.Author.Rules.{rules}
use Rattle.file_sections.proofs.write_middle.Statement.{statement}
use Rattle.file_sections.proofs.write_middle.Tie as tie

char-start-requires : tie.Need-char_start-a-requires
char-start-requires c κs = search rules

mul-a : tie.Need-overflow_mul-a
mul-a c = search rules

char-start-requires-2 : tie.Need-char_start-requires
char-start-requires-2 c κs = search rules

char-count-requires : tie.Need-char_count-requires
char-count-requires c κs = search rules

add-b : tie.Need-overflow_add-b
add-b c = search rules

mul-b : tie.Need-overflow_mul-b
mul-b c = search rules

put-chars-requires : tie.Need-put_chars-requires
put-chars-requires c κs = search rules

command-start-requires : tie.Need-command_start-requires
command-start-requires c κs = search rules

mul-copy-part : tie.Need-overflow_mul-command_start
mul-copy-part c = search rules

copy-part-requires : tie.Need-copy_part-requires
copy-part-requires c κs = search rules

same_length : tie.Need-shape_of-out
same_length c = search rules

returns : tie.Need-returns
returns c =
    let old = c.args.old.now in
    let l = c.args.l in
    let out = c.args.out.now in
    let chars = written_char old l c.args.table.now in
    runs_join out (4 * char_start l) (4 * (char_start l + char_count l)) (section_bytes (char_count l) chars) (old_dimensions old l)
    (c.put_chars.ensures ∙ ap (λ (k : ℕ). sets out (4 * k) (section_bytes (char_count l) chars)) c.char_start-a.ensures)
    (c.copy_part.ensures
    ∙ (λ i. sets c.put_chars.new.out (4 * (c.char_start.ensures i + c.char_count.ensures i))
    (file_bytes old (4 * (c.char_start.ensures i + c.char_count.ensures i)) (4 * c.command_start.ensures i))))
    (omega (arith, length_section (char_count l) chars))

pub write_middle_spec : {M : Type 1} → statement M
write_middle_spec =
    tie.close
    (tie.spec
    char-start-requires
    mul-a
    char-start-requires-2
    char-count-requires
    add-b
    mul-b
    put-chars-requires
    command-start-requires
    mul-copy-part
    copy-part-requires
    same_length
    returns)
