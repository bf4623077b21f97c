-- `file_packing::pack_taken` meets its contract: proofs/Packing, by what each of the three calls leaves.
-- Assumes nothing.
use mathlib.Core.Path.{sym}
use Prim.Native.Nat.{◌≤◌}
use native.Mathlib.Omega.{arith}
use lib.ListN.{length}
use lib.Seq.{length-take-le}
use Rattle.words.proofs.Bits.{number_word}
use Rattle.file_packing.proofs.Packing.{lent_short, lent_fits, font_taken}
use borrow.Author.Rules.{rules}
use Rattle.file_packing.proofs.pack_taken.Statement.{statement}
use Rattle.file_packing.proofs.pack_taken.Tie as tie

-- ---- where each call stands

abbrev lent : tie.After-pack_kerns → tie.Start
lent p = p.before.before

abbrev after-packing : tie.After-unpack_kerns-shared → tie.After-pack_kerns
after-packing u = u.before.before.before.before

packed_fits : (p : tie.After-pack_kerns) → length (lent p).args.instructions.now ≤ length p.pack_kerns.new.out
packed_fits p =
    let s = lent p in
    let a = s.args in
    omega (
      arith,
      p.pack_kerns.auto.out,
      lent_fits a.instructions.now a.kerns.now a.entries.now a.boundary a.left_entry a.out.now a.kerns_out.now a.entries_out.now
          s.requires.0,
    )

shared_fits : (u : tie.After-unpack_kerns-shared) → length (lent (after-packing u)).args.instructions.now ≤ length u.unpack_kerns-shared.new.out
shared_fits u =
    let s = lent (after-packing u) in
    let a = s.args in
    omega (
      arith,
      u.unpack_kerns-shared.auto.out,
      s.requires.1,
      lent_short a.instructions.now a.kerns.now a.entries.now a.boundary a.left_entry a.out.now a.kerns_out.now a.entries_out.now
          s.requires.0,
    )

pack-kerns-requires : tie.Need-pack_kerns-requires
pack-kerns-requires c κs = search rules

slice-reshare-prefix-unpack-kerns : tie.Need-slice_bounds-unpack_kerns-end
slice-reshare-prefix-unpack-kerns c = packed_fits c.before

slice-aggregate-unpack-kerns : tie.Need-slice_bounds-unpack_kerns-end-2
slice-aggregate-unpack-kerns c =
    sym (length-take-le (length (lent (c.before)).args.instructions.now) c.pack_kerns.new.out (packed_fits (c.before)))

unpack-kerns-requires : tie.Need-unpack_kerns-shared-requires
unpack-kerns-requires c κs = search rules

slice-reshare-prefix-pack-entrypoints : tie.Need-slice_bounds-pack_entrypoints-end
slice-reshare-prefix-pack-entrypoints c = shared_fits c.before.before

slice-aggregate-pack-entrypoints : tie.Need-slice_bounds-pack_entrypoints-end-2
slice-aggregate-pack-entrypoints c =
    sym (length-take-le (length (lent (after-packing (c.before.before))).args.instructions.now) c.unpack_kerns-shared.new.out (shared_fits (c.before.before)))

pack-entrypoints-requires : tie.Need-pack_entrypoints-packed-requires
pack-entrypoints-requires c κs = search rules

sizes-of-requires : tie.Need-sizes_of-requires
sizes-of-requires c κs = search rules

same_length : tie.Need-shape_of-numbers
same_length c = search rules

same-length-2 : tie.Need-shape_of-out
same-length-2 c = search rules

same-length-3 : tie.Need-shape_of-kerns_out
same-length-3 c = search rules

same-length-4 : tie.Need-shape_of-entries_out
same-length-4 c = search rules

returns : tie.Need-returns
returns c =
    let p = after-packing (c.before.before.before.before.before.before.before.before) in
    let s = lent p in
    let a = s.args in
    font_taken a.instructions.now a.kerns.now a.entries.now a.boundary a.left_entry a.out.now a.kerns_out.now a.entries_out.now
    s.requires.0 a.numbers.now s.requires.1 p.pack_kerns.ensures p.pack_kerns.auto.out c.unpack_kerns-shared.ensures
    (number_word a.boundary s.ranges.boundary) (number_word a.left_entry s.ranges.left_entry) c.pack_entrypoints-packed.ensures c.sizes_of.ensures

pub pack_taken_spec : {M : Type 1} → statement M
pack_taken_spec =
    tie.close
    (tie.spec
    pack-kerns-requires
    slice-reshare-prefix-unpack-kerns
    slice-aggregate-unpack-kerns
    unpack-kerns-requires
    slice-reshare-prefix-pack-entrypoints
    slice-aggregate-pack-entrypoints
    pack-entrypoints-requires
    sizes-of-requires
    same_length
    same-length-2
    same-length-3
    same-length-4
    returns)
