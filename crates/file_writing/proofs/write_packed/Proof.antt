-- `file_writing::write_packed` meets its contract: a number that is not 0 is answered, else the file is written.
-- Assumes nothing.
use mathlib.Core.Path.{◌≡◌, sym, ap, subst₂, ◌∙◌}
use mathlib.Core.List.{List}
use Prim.Native.Nat.{ℕ, ◌*◌, ◌≤◌}
use native.Mathlib.Omega.{arith}
use lib.IntN.{ℤ, negsuc}
use lib.ListN.{length, take}
use lib.Seq.{sets, length-take-le}
use Rattle.words.proofs.Bits.{number_word}
use Rattle.lang.specs.Records.{count}
use Rattle.lang.specs.Checks.{or_else}
use Rattle.lang.specs.Answers.{room_refusal}
use Rattle.lang.specs.Entries.{entries_table}
use Rattle.files.specs.declared.FileLengths.{FileLengths}
use Rattle.files.specs.Lengths.{lengths_of, lengths_refusal}
use Rattle.files.specs.Writing.{Writable, writable, writable_refusal, written_size, written_lengths, joined_file}
use Rattle.file_sections.specs.Fitting.{file_in_front}
use Rattle.file_writing.proofs.Whole.{file_refused, number_is, small, file_written}
use borrow.Author.Rules.{rules}
use Rattle.file_writing.proofs.write_packed.Statement.{statement}
use Rattle.file_writing.proofs.write_packed.Tie as tie

-- the function's start, from where the numbers are asked
abbrev start : tie.After-file_refusal-refusal → tie.Start
start r = r.before.before.before

-- the font that is lent
abbrev font : tie.Start → Writable
font s = let a = s.args in writable a.instructions.now a.kerns.now a.entries.now a.boundary a.left_entry

asked : (r : tie.After-file_refusal-refusal) → let s = start r in
    r.file_refusal-refusal.result ≡
    or_else (lengths_refusal s.args.old.now)
    (or_else (writable_refusal s.args.old.now (font s) s.args.n s.args.k)
    (room_refusal (4 * written_size s.args.old.now s.args.n s.args.k) (length s.args.out.now)))
asked r =
    let s = start r in
    let a = s.args in
    r.file_refusal-refusal.ensures
    ∙ (λ i. or_else (lengths_refusal a.old.now)
    (or_else (writable_refusal a.old.now
    (writable a.instructions.now a.kerns.now a.entries.now (number_word a.boundary s.ranges.boundary i)
    (number_word a.left_entry s.ranges.left_entry i)) a.n a.k)
    (room_refusal (4 * written_size a.old.now a.n a.k) (length a.out.now))))

-- no number is answered
none : (e : tie.Else-refusal-ne0) → let s = start e.before in
    or_else (lengths_refusal s.args.old.now)
    (or_else (writable_refusal s.args.old.now (font s) s.args.n s.args.k)
    (room_refusal (4 * written_size s.args.old.now s.args.n s.args.k) (length s.args.out.now))) ≡ 0
none e = sym (asked e.before) ∙ e.if-refusal-ne0.false

size : (m : tie.After-written_size) →
    let a = (start m.before.before.before.before.before.before.before.before.before).args in
    m.written_size.result ≡ written_size a.old.now a.n a.k
size m =
    let a = (start m.before.before.before.before.before.before.before.before.before).args in
    m.written_size.ensures ∙ ap (λ (l : FileLengths). (written_lengths l a.n a.k).lf) m.lengths_of.ensures

file-refusal-requires : tie.Need-file_refusal-refusal-requires
file-refusal-requires c κs = search rules

returns : tie.Need-returns-then-refusal-ne0
returns c =
    let s = start (c.before) in
    file_refused s.args.old.now (font s) s.args.out.now c.file_refusal-refusal.result
    (number_is s.args.old.now (font s) s.args.out.now s.requires.0 c.file_refusal-refusal.result (asked (c.before))) c.if-refusal-ne0.true s.requires.1

slice-aggregate-entries-table : tie.Need-slice_bounds-entries_table-end
slice-aggregate-entries-table c =
    sym (length-take-le (length c.args.entries.now) c.args.packed.now c.requires.0.entries_long)

entries-table-requires : tie.Need-entries_table-table-requires
entries-table-requires c κs = search rules

mul-write-file : tie.Need-overflow_mul-n
mul-write-file c = search rules

slice-aggregate-write-file : tie.Need-slice_bounds-write_file-end
slice-aggregate-write-file c =
    sym (length-take-le (4 * c.args.n) c.args.program.now c.requires.0.program_long)

slice-aggregate-write-file-2 : tie.Need-slice_bounds-write_file-end-2
slice-aggregate-write-file-2 c =
    sym (length-take-le c.args.k c.args.shared.now c.requires.0.kerns_long)

write-file-requires : tie.Need-write_file-requires
write-file-requires c κs = search rules

lengths-of-requires : tie.Need-lengths_of-requires
lengths-of-requires c κs = search rules

cast-written-size : tie.Need-overflow_cast-n
cast-written-size c =
    let s = start c.before.before.before.before.before.before.before.before in
    omega (arith, small s.args.old.now (font s) s.args.out.now s.requires.0 (none (c.before.before.before.before.before.before.before)))

cast-written-size-2 : tie.Need-overflow_cast-k
cast-written-size-2 c =
    let s = start c.before.before.before.before.before.before.before.before in
    omega (arith, small s.args.old.now (font s) s.args.out.now s.requires.0 (none (c.before.before.before.before.before.before.before)))

written-size-requires : tie.Need-written_size-requires
written-size-requires c κs = search rules

mul-t31 : tie.Need-overflow_mul-result
mul-t31 c =
    let s = start c.before.before.before.before.before.before.before.before.before in
    omega (arith, size c, small s.args.old.now (font s) s.args.out.now s.requires.0 (none (c.before.before.before.before.before.before.before.before)))

same_length : tie.Need-shape_of-out
same_length c = search rules

returns-2 : tie.Need-returns
returns-2 c =
    let s = start c.before.before.before.before.before.before.before.before.before in
    let a = s.args in
    file_written a.old.now (font s) a.out.now s.requires.0 (none (c.before.before.before.before.before.before.before.before)) c.written_size.result (size c) s.requires.1
    (c.write_file.ensures
    ∙ (λ i. file_in_front a.old.now (take (4 * a.n) a.program.now) (take a.k a.shared.now) (c.entries_table-table.ensures i)
    (number_word a.boundary s.ranges.boundary i) a.out.now))

pub write_packed_spec : {M : Type 1} → statement M
write_packed_spec =
    tie.close
    (tie.spec
    file-refusal-requires
    returns
    slice-aggregate-entries-table
    entries-table-requires
    mul-write-file
    slice-aggregate-write-file
    slice-aggregate-write-file-2
    write-file-requires
    lengths-of-requires
    cast-written-size
    cast-written-size-2
    written-size-requires
    mul-t31
    same_length
    returns-2)
