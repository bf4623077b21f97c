-- `file_packing::pack_font` meets its contract: zeros where the font is refused, and else what `pack_taken` leaves.
-- Assumes nothing.
use mathlib.Core.Path.{◌≡◌}
use lib.ListN.{length}
use Rattle.words.proofs.Bits.{number_word}
use Rattle.files.specs.Writing.{Writable, writable, pack_font_number}
use Rattle.file_packing.proofs.Packing.{font_refused}
use borrow.Author.Rules.{rules}
use Rattle.file_packing.proofs.pack_font.Statement.{statement}
use Rattle.file_packing.proofs.pack_font.Tie as tie

abbrev font : tie.Start → Writable
font s = writable s.args.instructions.now s.args.kerns.now s.args.entries.now s.args.boundary s.args.left_entry

asked : (r : tie.After-font_refusal-refusal) → let s = r.before in
    r.font_refusal-refusal.result
    ≡ pack_font_number (font (r.before)) (length r.args.out.now) (length r.args.kerns_out.now) (length r.args.entries_out.now)
asked r =
    let s = r.before in
    rw (number_word r.args.boundary r.ranges.boundary, number_word r.args.left_entry r.ranges.left_entry) at r.font_refusal-refusal.ensures

font-refusal-requires : tie.Need-font_refusal-refusal-requires
font-refusal-requires c κs = search rules

zero-all-requires : tie.Need-zero_all-requires
zero-all-requires c κs = search rules

zero-all-requires-2 : tie.Need-zero_all-requires-then-refusal-ne0
zero-all-requires-2 c κs = search rules

zero-all-requires-3 : tie.Need-zero_all-requires-then-refusal-ne0-2
zero-all-requires-3 c κs = search rules

same_length : tie.Need-shape_of-out-then-refusal-ne0
same_length c = search rules

same-length-2 : tie.Need-shape_of-kerns_out-then-refusal-ne0
same-length-2 c = search rules

same-length-3 : tie.Need-shape_of-entries_out-then-refusal-ne0
same-length-3 c = search rules

returns : tie.Need-returns-then-refusal-ne0
returns c =
    let a = c.args in
    font_refused (font c.before.before.before.before.before.before.before.before.before.before.before) a.out.now a.kerns_out.now a.entries_out.now (asked (c.before.before.before.before.before.before.before.before.before.before)) c.if-refusal-ne0.true c.zero_all.ensures
    c.zero_all-then-refusal-ne0.ensures c.zero_all-then-refusal-ne0-2.ensures

slice-aggregate-pack-taken : tie.Need-slice_bounds-pack_taken-end
slice-aggregate-pack-taken c = search rules

pack-taken-requires : tie.Need-pack_taken-requires
pack-taken-requires c κs = search rules

same-length-4 : tie.Need-shape_of-out
same-length-4 c = search rules

same-length-5 : tie.Need-shape_of-kerns_out
same-length-5 c = search rules

same-length-6 : tie.Need-shape_of-entries_out
same-length-6 c = search rules

returns-2 : tie.Need-returns
returns-2 c =
    rw (number_word c.args.boundary c.ranges.boundary, number_word c.args.left_entry c.ranges.left_entry) at c.pack_taken.ensures

pub pack_font_spec : {M : Type 1} → statement M
pack_font_spec =
    tie.close
    (tie.spec
    font-refusal-requires
    zero-all-requires
    zero-all-requires-2
    zero-all-requires-3
    same_length
    same-length-2
    same-length-3
    returns
    slice-aggregate-pack-taken
    pack-taken-requires
    same-length-4
    same-length-5
    same-length-6
    returns-2)
