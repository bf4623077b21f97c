-- `file_sections::write_file` meets its contract: where the file can be written it is joined.
-- Assumes nothing.
use mathlib.Core.Path.{◌≡◌, sym, subst, ◌∙◌}
use mathlib.Core.Bool.{true}
use Prim.Native.Nat.{◌*◌, ◌≤◌}
use lib.ListN.{length}
use lib.Seq.{sets}
use Rattle.words.proofs.Bits.{number_word}
use Rattle.lang.specs.Records.{count}
use Rattle.files.specs.declared.FileLengths.{FileLengths}
use Rattle.files.specs.Lengths.{file_end}
use Rattle.files.specs.Writing.{written_lengths, joined_file}
use Rattle.file_sections.specs.Fitting.{file_fits}
use Rattle.file_sections.proofs.Fitting.{fits_whole, fits_small, fits_room, in_front_lem, left_as_it_came}
use borrow.Author.Rules.{rules}
use Rattle.file_sections.proofs.write_file.Statement.{statement}
use Rattle.file_sections.proofs.write_file.Tie as tie

abbrev start : tie.After-file_fits → tie.Start
start f = f.before.before.before.before

-- the file can be written
fitting : (t : tie.Then-file_fits) → let a = (start t.before).args in
    file_fits a.old.now (count a.program.now) (length a.kerns.now) (length a.out.now) ≡ true
fitting t = sym t.file_fits.ensures ∙ t.if-file_fits.true

lengths-of-requires : tie.Need-lengths_of-l-requires
lengths-of-requires c κs = search rules

file-fits-requires : tie.Need-file_fits-requires
file-fits-requires c κs = search rules

join-file-requires : tie.Need-join_file-requires
join-file-requires c κs =
    let s = start c.before.before in
    let old = s.args.old.now in
    let n = count s.args.program.now in
    let k = length s.args.kerns.now in
    let room = length s.args.out.now in
    subst
    (λ (l : FileLengths). (length old ≡ 4 * file_end l) × (((written_lengths l n k).lf ≤ 32767) × (4 * (written_lengths l n k).lf ≤ room)))
    (sym c.lengths_of-l.ensures)
    (fits_whole old n k room (fitting (c.before)), (fits_small old n k room (fitting (c.before)), fits_room old n k room (fitting (c.before))))

same_length : tie.Need-shape_of-out
same_length c = search rules

returns : tie.Need-returns-then-file_fits
returns c =
    let s = start c.before.before.before.before.before in
    let a = s.args in
    in_front_lem a.old.now a.program.now a.kerns.now a.table.now a.boundary a.out.now (fitting (c.before.before.before.before))
    (c.join_file.ensures
    ∙ (λ i. sets a.out.now 0
    (joined_file a.old.now (c.lengths_of-l.ensures i) a.program.now a.kerns.now a.table.now
    (number_word a.boundary s.ranges.boundary i))))

returns-2 : tie.Need-returns-else-file_fits
returns-2 c =
    let a = (start c.before).args in
    left_as_it_came a.old.now a.program.now a.kerns.now a.table.now a.boundary a.out.now
    (sym c.file_fits.ensures ∙ c.if-file_fits.false)

pub write_file_spec : {M : Type 1} → statement M
write_file_spec =
    tie.close
    (tie.spec
    lengths-of-requires
    file-fits-requires
    join-file-requires
    same_length
    returns
    returns-2)
