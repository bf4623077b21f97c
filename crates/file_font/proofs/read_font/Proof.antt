-- `file_font::read_font` meets its contract: what reading the file refuses, 15 by the unpacked entries, or the font.
-- Assumes nothing.
use mathlib.Core.Path.{sym, ◌∙◌}
use Prim.Native.Nat.{◌*◌}
use native.Mathlib.Omega.{arith}
use lib.Seq.{length-take-le}
use borrow.Author.Rules.{rules}
use Rattle.words.proofs.Bits.{number_word}
use Rattle.file_font.proofs.Reading.{FontRead, font_read, Zeroed, font_refused, font_short, led_few, font_taken}
use Rattle.file_font.proofs.read_font.Statement.{statement}
use Rattle.file_font.proofs.read_font.Tie as tie

-- where the file is read; and from there where the lists were zeroed and the packed entries given room, and the function's start
abbrev reading : tie.In-Font → tie.After-deserialize
reading v = v.before.before.before.before

abbrev list : tie.After-deserialize → tie.After-packed_list-packed
list d = d.before.before.before.before

abbrev lost-zeroed : tie.After-deserialize → tie.After-zero_all-2
lost-zeroed d = (list d).before.before

abbrev entries-zeroed : tie.After-deserialize → tie.After-zero_all
entries-zeroed d = (lost-zeroed d).before.before.before

abbrev start : tie.After-deserialize → tie.Start
start d = (entries-zeroed d).before.before.before

-- what stood then
zeroed : (d : tie.After-deserialize) → let a = (start d).args in
    Zeroed a.file.now a.instructions.now a.kerns.now a.entries.now a.lost.now (list d).packed_list-packed.result
    (entries-zeroed d).zero_all.new.s (lost-zeroed d).zero_all-2.new.s
zeroed d =
    record {
      long = (list d).packed_list-packed.ensures;
      entries = (entries-zeroed d).zero_all.ensures;
      lost = (lost-zeroed d).zero_all-2.ensures;
    }

-- what was read
read : (v : tie.In-Font) → let d = reading v in
    let a = (start d).args in
    FontRead a.file.now a.instructions.now a.kerns.now (list d).packed_list-packed.result v.in-Font.n v.in-Font.k
    v.in-Font.e v.in-Font.boundary v.in-Font.left d.deserialize.new.instructions d.deserialize.new.kerns
    d.deserialize.new.entries
read v = font_read (reading v).deserialize.ensures v.in-Font.is

zero-all-requires : tie.Need-zero_all-requires
zero-all-requires c κs = search rules

zero-all-requires-2 : tie.Need-zero_all-requires-2
zero-all-requires-2 c κs = search rules

packed-list-requires : tie.Need-packed_list-packed-requires
packed-list-requires c κs = search rules

slice-aggregate-deserialize : tie.Need-slice_bounds-deserialize-end
slice-aggregate-deserialize c = search rules

deserialize-requires : tie.Need-deserialize-requires
deserialize-requires c κs = search rules

enum-known-number : tie.Need-enum_known-number
enum-known-number c = search rules

enum-known-n : tie.Need-enum_known-n
enum-known-n c = search rules

mul-unpack-within : tie.Need-overflow_mul-n
mul-unpack-within c = omega (arith, (read c).small)

slice-reshare-prefix-unpack-within : tie.Need-slice_bounds-unpack_within-end
slice-reshare-prefix-unpack-within c = (read c).fits

slice-aggregate-unpack-within : tie.Need-slice_bounds-unpack_within-end-in-Font
slice-aggregate-unpack-within c =
    sym (length-take-le (4 * c.in-Font.n) (reading (c)).deserialize.new.instructions (read (c)).fits)

mul-packed : tie.Need-overflow_mul-packed
mul-packed c = omega (arith, (read c).room)

array-share-prefix-packed : tie.Need-slice_bounds-packed-end
array-share-prefix-packed c = (read c).packed_fits

slice-aggregate-unpack-within-2 : tie.Need-slice_bounds-unpack_within-end-in-Font-2
slice-aggregate-unpack-within-2 c =
    sym (length-take-le (2 * c.in-Font.e) (reading (c.before)).deserialize.new.entries (read (c.before)).packed_fits)

unpack-within-requires : tie.Need-unpack_within-requires
unpack-within-requires c κs = search rules

enum-known-m : tie.Need-enum_known-m
enum-known-m c = search rules

sub-t41 : tie.Need-overflow_sub-result
sub-t41 c =
    let d = reading (c.before.before.before.before.before.before.before) in
    led_few (zeroed d) (read (c.before.before.before.before.before.before.before)) c.unpack_within.ensures c.in-Count.is

file-design-requires : tie.Need-file_design-requires
file-design-requires c κs = search rules

enum-known-number-2 : tie.Need-enum_known-number-in-Refused-unpack_within
enum-known-number-2 c = search rules

zero-all-requires-3 : tie.Need-zero_all-requires-in-Refused-unpack_within
zero-all-requires-3 c κs = search rules

zero-all-requires-4 : tie.Need-zero_all-requires-in-Refused-unpack_within-2
zero-all-requires-4 c κs = search rules

same_length : tie.Need-shape_of-instructions-in-Refused
same_length c = search rules

same-length-2 : tie.Need-shape_of-kerns-in-Refused
same-length-2 c = search rules

same-length-3 : tie.Need-shape_of-entries-in-Refused
same-length-3 c = search rules

same-length-4 : tie.Need-shape_of-lost-in-Refused
same-length-4 c = search rules

returns : tie.Need-returns-in-Refused
returns c =
    font_refused (zeroed (c.before.before.before.before))
    c.deserialize.ensures c.in-Refused.is

same-length-5 : tie.Need-shape_of-instructions-in-Count
same-length-5 c = search rules

same-length-6 : tie.Need-shape_of-kerns-in-Count
same-length-6 c = search rules

same-length-7 : tie.Need-shape_of-entries-in-Count
same-length-7 c = search rules

same-length-8 : tie.Need-shape_of-lost-in-Count
same-length-8 c = search rules

returns-2 : tie.Need-returns-in-Count
returns-2 c =
    let d = reading (c.before.before.before.before.before.before.before.before) in
    font_taken (zeroed d) (read (c.before.before.before.before.before.before.before.before)) c.unpack_within.ensures c.in-Count.is
    (number_word c.in-Font.boundary (record { sfits = c.in-Font.known_told-in-Font-1-own.given.1.1.1.0.1 }))
    (number_word c.in-Font.left (record { sfits = c.in-Font.known_told-in-Font-1-own.given.1.1.1.1.0.1 }))
    (number_word c.file_design.result (record { sfits = c.file_design.type_inv }) ∙ c.file_design.ensures)

same-length-9 : tie.Need-shape_of-instructions-in-Refused-unpack_within
same-length-9 c = search rules

same-length-10 : tie.Need-shape_of-kerns-in-Refused-unpack_within
same-length-10 c = search rules

same-length-11 : tie.Need-shape_of-entries-in-Refused-unpack_within
same-length-11 c = search rules

same-length-12 : tie.Need-shape_of-lost-in-Refused-unpack_within
same-length-12 c = search rules

returns-3 : tie.Need-returns-in-Refused-unpack_within
returns-3 c =
    let d = reading (c.before.before.before.before.before.before.before.before.before.before.before.before.before) in
    font_short (zeroed d) (read (c.before.before.before.before.before.before.before.before.before.before.before.before.before)) c.unpack_within.ensures c.in-Refused-unpack_within.is d.deserialize.auto.instructions
    d.deserialize.auto.kerns c.zero_all-in-Refused-unpack_within.ensures c.zero_all-in-Refused-unpack_within-2.ensures

pub read_font_spec : {M : Type 1} → statement M
read_font_spec =
    tie.close
    (tie.spec
    zero-all-requires
    zero-all-requires-2
    packed-list-requires
    slice-aggregate-deserialize
    deserialize-requires
    enum-known-number
    enum-known-n
    mul-unpack-within
    slice-reshare-prefix-unpack-within
    slice-aggregate-unpack-within
    mul-packed
    array-share-prefix-packed
    slice-aggregate-unpack-within-2
    unpack-within-requires
    enum-known-m
    sub-t41
    file-design-requires
    enum-known-number-2
    zero-all-requires-3
    zero-all-requires-4
    same_length
    same-length-2
    same-length-3
    same-length-4
    returns
    same-length-5
    same-length-6
    same-length-7
    same-length-8
    returns-2
    same-length-9
    same-length-10
    same-length-11
    same-length-12
    returns-3)
