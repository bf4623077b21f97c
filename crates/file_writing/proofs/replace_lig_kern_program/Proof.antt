-- `file_writing::replace_lig_kern_program` meets its contract: what packing refuses is answered; else the packed font is written.
-- Assumes nothing.
use mathlib.Core.Path.{◌≡◌, ap, subst, ◌∙◌}
use Prim.Native.Nat.{ℕ, ◌≤◌}
use native.Mathlib.Omega.{arith}
use lib.ListN.{length}
use Rattle.words.specs.Words.{word_of, number_of}
use Rattle.words.proofs.Bits.{number_word}
use Rattle.files.specs.declared.PackedFont.{PackedFont}
use Rattle.files.specs.Writing.{Writable, writable, pack_font_refusal, PacksFont}
use Rattle.file_writing.proofs.Whole.{packed_holds, packed_refused, zeros_long, file_refused, pack_number, replaced_same}
use borrow.Author.Rules.{rules}
use Rattle.file_writing.proofs.replace_lig_kern_program.Statement.{statement}
use Rattle.file_writing.proofs.replace_lig_kern_program.Tie as tie

-- where the bytes are zeroed, and the function's start, seen from where the font is packed
abbrev zeroed : tie.After-pack_font → tie.After-zero_all
zeroed p = p.before.before.before.before.before.before.before.before.before

abbrev start : tie.After-pack_font → tie.Start
start p = (zeroed p).before.before.before.before

-- the font that is lent; and the same by the 32 bits of its boundary character and left entry
abbrev lent : tie.Start → Writable
lent s = let a = s.args in writable a.instructions.now a.kerns.now a.entries.now a.boundary a.left_entry

abbrev font : tie.Start → Writable
font s =
    let a = s.args in
    writable a.instructions.now a.kerns.now a.entries.now (number_of (word_of a.boundary)) (number_of (word_of a.left_entry))

font-is : (s : tie.Start) → font s ≡ lent s
font-is s =
    let a = s.args in
    λ i. writable a.instructions.now a.kerns.now a.entries.now (number_word a.boundary s.ranges.boundary i)
    (number_word a.left_entry s.ranges.left_entry i)

-- the lists have room for any font
long : (p : tie.After-pack_font) → 132096 ≤ length p.program_list-program.result
long p = omega (arith, p.program_list-program.ensures)

kerns_long : (p : tie.After-pack_font) → 32767 ≤ length p.kern_list-shared.result
kerns_long p = omega (arith, p.kern_list-shared.ensures)

entries_long : (p : tie.After-pack_font) → 512 ≤ length p.entry_list-packed.result
entries_long p = omega (arith, p.entry_list-packed.ensures)

zero-all-requires : tie.Need-zero_all-requires
zero-all-requires c κs = search rules

program-list-requires : tie.Need-program_list-program-requires
program-list-requires c κs = search rules

kern-list-requires : tie.Need-kern_list-shared-requires
kern-list-requires c κs = search rules

entry-list-requires : tie.Need-entry_list-packed-requires
entry-list-requires c κs = search rules

slice-aggregate-pack-font : tie.Need-slice_bounds-pack_font-end
slice-aggregate-pack-font c = search rules

slice-aggregate-pack-font-2 : tie.Need-slice_bounds-pack_font-end-2
slice-aggregate-pack-font-2 c = search rules

slice-aggregate-pack-font-3 : tie.Need-slice_bounds-pack_font-end-3
slice-aggregate-pack-font-3 c = search rules

pack-font-requires : tie.Need-pack_font-requires
pack-font-requires c κs = search rules

enum-known-number : tie.Need-enum_known-number
enum-known-number c = search rules

enum-known-n : tie.Need-enum_known-n
enum-known-n c = search rules

slice-aggregate-write-packed : tie.Need-slice_bounds-write_packed-end
slice-aggregate-write-packed c = search rules

slice-aggregate-write-packed-2 : tie.Need-slice_bounds-write_packed-end-in-Sizes
slice-aggregate-write-packed-2 c = search rules

slice-aggregate-write-packed-3 : tie.Need-slice_bounds-write_packed-end-in-Sizes-2
slice-aggregate-write-packed-3 c = search rules

write-packed-requires : tie.Need-write_packed-requires
write-packed-requires c κs =
    let z = zeroed (c.before.before.before.before.before.before.before.before) in (
      packed_holds (font (start (c.before.before.before.before.before.before.before.before))) (long (c.before.before.before.before.before.before.before.before)) (kerns_long (c.before.before.before.before.before.before.before.before)) (entries_long (c.before.before.before.before.before.before.before.before)) c.in-Sizes.n c.in-Sizes.k
          (subst
          (λ (r : PackedFont). PacksFont (font (start (c.before.before.before.before.before.before.before.before))) c.program_list-program.result c.kern_list-shared.result c.entry_list-packed.result r
          c.pack_font.new.out c.pack_font.new.kerns_out c.pack_font.new.entries_out)
          c.in-Sizes.is c.pack_font.ensures) c.pack_font.auto.out c.pack_font.auto.kerns_out c.pack_font.auto.entries_out,
      zeros_long (length (start (c.before.before.before.before.before.before.before.before)).args.out.now) z.zero_all.ensures,
    )

same_length : tie.Need-shape_of-out-in-Refused
same_length c = search rules

returns : tie.Need-returns-in-Refused
returns c =
    let s = start (c.before.before.before.before) in
    let q = packed_refused (font s) (long (c.before.before.before.before)) (kerns_long (c.before.before.before.before)) (entries_long (c.before.before.before.before)) c.in-Refused.number
    (subst
    (λ (r : PackedFont). PacksFont (font s) c.program_list-program.result c.kern_list-shared.result c.entry_list-packed.result r
    c.pack_font.new.out c.pack_font.new.kerns_out c.pack_font.new.entries_out)
    c.in-Refused.is c.pack_font.ensures) in
    file_refused s.args.old.now (lent s) s.args.out.now c.in-Refused.number
    (pack_number s.args.old.now (lent s) s.args.out.now c.in-Refused.number (q.0 ∙ ap pack_font_refusal (font-is s)) q.1) q.1
    (zeroed (c.before.before.before.before)).zero_all.ensures

same-length-2 : tie.Need-shape_of-out-in-Sizes
same-length-2 c = search rules

returns-2 : tie.Need-returns-in-Sizes
returns-2 c =
    let s = start (c.before.before.before.before.before.before.before.before.before.before.before) in
    replaced_same s.args.old.now (lent s) s.args.out.now (font s) (zeroed (c.before.before.before.before.before.before.before.before.before.before.before)).zero_all.new.s (font-is s) (zeroed (c.before.before.before.before.before.before.before.before.before.before.before)).zero_all.auto.s
    c.write_packed.ensures

pub replace_lig_kern_program_spec : {M : Type 1} → statement M
replace_lig_kern_program_spec =
    tie.close
    (tie.spec
    zero-all-requires
    program-list-requires
    kern-list-requires
    entry-list-requires
    slice-aggregate-pack-font
    slice-aggregate-pack-font-2
    slice-aggregate-pack-font-3
    pack-font-requires
    enum-known-number
    enum-known-n
    slice-aggregate-write-packed
    slice-aggregate-write-packed-2
    slice-aggregate-write-packed-3
    write-packed-requires
    same_length
    returns
    same-length-2
    returns-2)
