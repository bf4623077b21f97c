-- `file_reading::write_font` meets its contract: a file that is not refused has lists that fit, and each is written.
-- Assumes nothing.
use Prim.Native.Nat.{◌+◌, ◌≤◌}
use native.Mathlib.Omega.{arith}
use lib.ListN.{length}
use Rattle.file_reading.proofs.Reading.{Taken, taken, answered, program_written, kerns_written, entries_written, entries_counted}
use Rattle.file_reading.proofs.Reading.{boundary_read, left_read, font_answer}
use borrow.Author.Rules.{rules}
use Rattle.file_reading.proofs.write_font.Statement.{statement}
use Rattle.file_reading.proofs.write_font.Tie as tie

-- what is known of a file that is not refused
known : (l : tie.After-lengths_of-l) → let a = l.args in
    Taken a.file.now l.lengths_of-l.result (length a.instructions.now) (length a.kerns.now) (length a.entries.now)
known l =
    taken l.args.file.now (length l.args.instructions.now) (length l.args.kerns.now) (length l.args.entries.now) l.lengths_of-l.ensures
    l.requires

-- the lig/kern section and the kerns end with the file
ends : (s : tie.After-command_start-start) → let l = s.before.before.before in
    s.command_start-start.result + s.lengths_of-l.result.nl + s.lengths_of-l.result.nk ≤ 32767
ends s =
    let l = s.before.before.before in
    omega (arith, s.command_start-start.ensures, (known (s.before.before.before)).sections)

lengths-of-requires : tie.Need-lengths_of-l-requires
lengths-of-requires c κs = search rules

cast-n : tie.Need-overflow_cast-n
cast-n c = search rules

cast-kern-count : tie.Need-overflow_cast-kern_count
cast-kern-count c = search rules

command-start-requires : tie.Need-command_start-start-requires
command-start-requires c κs = search rules

char-start-requires : tie.Need-char_start-requires
char-start-requires c κs = search rules

char-count-requires : tie.Need-char_count-requires
char-count-requires c κs = search rules

write-entries-requires : tie.Need-write_entries-count-requires
write-entries-requires c κs =
    let t = known c.before.before.before.before.before.before in (
      omega (arith, t.characters, c.char_count.ensures),
      (
        omega (arith, t.sections, c.char_start.ensures, c.char_count.ensures),
        rw (c.char_start.ensures, c.char_count.ensures) t.entries,
      ),
    )

write-commands-requires : tie.Need-write_commands-requires
write-commands-requires c κs = (omega (arith, ends (c.before.before.before.before.before.before)), (known c.before.before.before.before.before.before.before.before.before).program)

add-write-kerns : tie.Need-overflow_add-start
add-write-kerns c = omega (arith, ends c.before.before.before.before.before.before.before.before)

write-kerns-requires : tie.Need-write_kerns-requires
write-kerns-requires c κs =
    (omega (arith, ends (c.before.before.before.before.before.before.before.before.before)), (known c.before.before.before.before.before.before.before.before.before.before.before.before).kerns)

boundary-of-requires : tie.Need-boundary_of-requires
boundary-of-requires c κs = search rules

number-of-requires : tie.Need-number_of-boundary-requires
number-of-requires c κs = search rules

add-left-of : tie.Need-overflow_add-start-2
add-left-of c = omega (arith, ends c.before.before.before.before.before.before.before.before.before.before.before.before.before)

sub-left-of : tie.Need-overflow_sub-start
sub-left-of c =
    omega (arith, c.command_start-start.ensures)

left-of-requires : tie.Need-left_of-requires
left-of-requires c κs = search rules

number-of-requires-2 : tie.Need-number_of-left-requires
number-of-requires-2 c κs = search rules

same_length : tie.Need-shape_of-instructions
same_length c = search rules

same-length-2 : tie.Need-shape_of-kerns
same-length-2 c = search rules

same-length-3 : tie.Need-shape_of-entries
same-length-3 c = search rules

returns : tie.Need-returns
returns c =
    let e = c.lengths_of-l.ensures in
    let file = c.args.file.now in
    record {
      answer = font_answer file e
          (entries_counted file e c.char_start.ensures c.char_count.ensures c.write_entries-count.ensures.1)
          (answered c.boundary_of.result (omega arith) c.number_of-boundary.ensures (boundary_read file e c.command_start-start.ensures c.boundary_of.ensures))
          (answered c.left_of.result (omega arith) c.number_of-left.ensures (left_read file e c.command_start-start.ensures c.left_of.ensures));
      program = program_written file e c.command_start-start.ensures c.write_commands.ensures;
      kern_list = kerns_written file e c.command_start-start.ensures c.write_kerns.ensures;
      entry_list = entries_written file e c.char_start.ensures c.char_count.ensures c.write_entries-count.ensures.0;
    }

pub write_font_spec : {M : Type 1} → statement M
write_font_spec =
    tie.close
    (tie.spec
    lengths-of-requires
    cast-n
    cast-kern-count
    command-start-requires
    char-start-requires
    char-count-requires
    write-entries-requires
    write-commands-requires
    add-write-kerns
    write-kerns-requires
    boundary-of-requires
    number-of-requires
    add-left-of
    sub-left-of
    left-of-requires
    number-of-requires-2
    same_length
    same-length-2
    same-length-3
    returns)
