-- `file_sections::file_fits` meets its contract: the lengths, the size and the room are tested.
-- Assumes nothing.
use mathlib.Core.Path.{◌≡◌, sym, ap, ◌∙◌}
use native.Mathlib.Omega.{arith}
use borrow.Author.Tests.{ne_eqb}
use Rattle.files.specs.declared.FileLengths.{FileLengths}
use Rattle.files.specs.Lengths.{lengths_refusal}
use Rattle.files.specs.Writing.{written_size, written_lengths}
use Rattle.file_sections.proofs.Fitting.{too_long, room_decides}
use borrow.Author.Rules.{rules}
use Rattle.file_sections.proofs.file_fits.Statement.{statement}
use Rattle.file_sections.proofs.file_fits.Tie as tie

abbrev start : tie.After-written_size-size → tie.Start
start w = w.before.before.before.before.before.before

-- the size is that of the new file
size : (w : tie.After-written_size-size) → let a = (start w).args in w.written_size-size.result ≡ written_size a.old.now a.n a.k
size w =
    let s = start w in
    w.written_size-size.ensures ∙ ap (λ (l : FileLengths). (written_lengths l s.args.n s.args.k).lf) s.requires

lengths-refusal-requires : tie.Need-lengths_refusal-requires
lengths-refusal-requires c κs = search rules

returns : tie.Need-returns-then-lengths_refusal-ne0
returns c =
    let old = c.args.old.now in
    rw (ne_eqb (lengths_refusal old) 0 (λ e. c.if-lengths_refusal-ne0.true (c.lengths_refusal.ensures ∙ e)))

returns-2 : tie.Need-returns-then-n-gt32767
returns-2 c =
    let a = c.args in
    too_long a.old.now a.n a.k a.room (omega (arith, c.if-n-gt32767.true))

returns-3 : tie.Need-returns-then-k-gt32767
returns-3 c =
    let a = c.args in
    too_long a.old.now a.n a.k a.room (omega (arith, c.if-k-gt32767.true))

cast-written-size : tie.Need-overflow_cast-n
cast-written-size c = search rules

cast-written-size-2 : tie.Need-overflow_cast-k
cast-written-size-2 c = search rules

written-size-requires : tie.Need-written_size-size-requires
written-size-requires c κs = search rules

returns-4 : tie.Need-returns-then-size-gt32767
returns-4 c =
    let a = (start c.before).args in
    too_long a.old.now a.n a.k a.room (omega (arith, c.if-size-gt32767.true, size c.before))

mul-result : tie.Need-overflow_mul-result
mul-result c = search rules

returns-5 : tie.Need-returns
returns-5 c =
    let a = (start (c.before)).args in
    room_decides a.old.now a.n a.k a.room c.written_size-size.result (size (c.before)) (sym c.lengths_refusal.ensures ∙ c.if-lengths_refusal-ne0.false)
    (omega (arith, c.if-size-gt32767.false))

pub file_fits_spec : {M : Type 1} → statement M
file_fits_spec =
    tie.close
    (tie.spec
    lengths-refusal-requires
    returns
    returns-2
    returns-3
    cast-written-size
    cast-written-size-2
    written-size-requires
    returns-4
    mul-result
    returns-5)
