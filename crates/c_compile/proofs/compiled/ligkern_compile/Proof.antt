-- `c_compile::compiled::ligkern_compile` meets its contract: proofs/Counts.
-- Assumes nothing.
use mathlib.Core.Path.{◌≡◌, ap, subst, subst₂, ◌∙◌}
use Prim.Native.Nat.{ℕ}
use Rattle.words.proofs.Bits.{number_word}
use Rattle.tfm.specs.Scaled.{asked_refusal, design_at}
use Rattle.lang.specs.Checks.{lower}
use Rattle.fonts.specs.declared.Compiled.{Compiled}
use Rattle.fonts.specs.Fonts.{Font, font_of}
use Rattle.fonts.specs.Compiled.{Compiles}
use Rattle.c_compile.proofs.Counts.{counts_refused, counts_short, counts_taken}
use borrow.Author.Rules.{rules}
use Rattle.c_compile.proofs.compiled.ligkern_compile.Statement.{statement}
use Rattle.c_compile.proofs.compiled.ligkern_compile.Tie as tie

-- compile is handed the font as it was lent, and the size
abbrev font : (c : tie.Start) → Font
font c =
    let a = c.args in
    font_of a.instructions.now a.kerns.now a.entries.now a.boundary a.left_entry (design_at a.design_size a.size a.magnification)

abbrev late : (c : tie.Start) → ℕ
late c = let a = c.args in asked_refusal a.design_size a.size a.magnification

compiled : (c : tie.After-compile) (r : Compiled) → c.compile.result ≡ r →
    Compiles (font (c.before.before.before.before.before.before.before.before.before.before.before)) (late (c.before.before.before.before.before.before.before.before.before.before.before)) c.args.pairs.now c.args.ops.now c.args.loops.now c.args.work.now r c.compile.new.pairs c.compile.new.ops c.compile.new.loops
    c.compile.new.work
compiled c r e =
    let a = c.args in
    let d = number_word a.design_size c.ranges.design_size in
    let x = number_word a.size c.ranges.size in
    let y = number_word a.magnification c.ranges.magnification in
    subst
    (λ (t : Compiled). Compiles (font (c.before.before.before.before.before.before.before.before.before.before.before)) (late (c.before.before.before.before.before.before.before.before.before.before.before)) a.pairs.now a.ops.now a.loops.now a.work.now t c.compile.new.pairs c.compile.new.ops c.compile.new.loops
    c.compile.new.work) e
    (subst₂
    (λ (f : Font) (n : ℕ). Compiles f n a.pairs.now a.ops.now a.loops.now a.work.now c.compile.result c.compile.new.pairs c.compile.new.ops c.compile.new.loops
    c.compile.new.work)
    (λ j. font_of a.instructions.now a.kerns.now a.entries.now (number_word a.boundary c.ranges.boundary j)
    (number_word a.left_entry c.ranges.left_entry j) (design_at (d j) (x j) (y j)))
    (λ j. asked_refusal (d j) (x j) (y j)) c.compile.ensures)

zero-u64-requires : tie.Need-zero_all-requires
zero-u64-requires c κs = search rules

compile-requires : tie.Need-compile-requires
compile-requires c κs = search rules

enum-known-n : tie.Need-enum_known-n
enum-known-n c = search rules

room-refusal-requires : tie.Need-room_refusal-requires
room-refusal-requires c κs = search rules

lower-of-requires : tie.Need-lower_of-requires
lower-of-requires c κs = search rules

enum-known-p : tie.Need-enum_known-p
enum-known-p c = search rules

zero-i32-requires : tie.Need-zero_all-requires-then-counts-lt3
zero-i32-requires c κs = search rules

zero-i32-requires-2 : tie.Need-zero_all-requires-then-counts-lt3-2
zero-i32-requires-2 c κs = search rules

zero-i32-requires-3 : tie.Need-zero_all-requires-then-counts-lt3-3
zero-i32-requires-3 c κs = search rules

same_length : tie.Need-shape_of-pairs-then-counts-lt3
same_length c = search rules

same-length-2 : tie.Need-shape_of-ops-then-counts-lt3
same-length-2 c = search rules

same-length-3 : tie.Need-shape_of-loops-then-counts-lt3
same-length-3 c = search rules

same-length-4 : tie.Need-shape_of-work-then-counts-lt3
same-length-4 c = search rules

same-length-5 : tie.Need-shape_of-counts-then-counts-lt3
same-length-5 c = search rules

returns : tie.Need-returns-then-counts-lt3
returns c =
    let a = c.args in
    counts_short (font (c.before.before.before.before.before.before.before.before.before.before.before.before.before.before.before.before.before.before.before.before.before.before.before.before.before.before.before)) (late (c.before.before.before.before.before.before.before.before.before.before.before.before.before.before.before.before.before.before.before.before.before.before.before.before.before.before.before)) a.pairs.now a.ops.now a.loops.now a.work.now a.counts.now c.compile.new.pairs c.compile.new.ops c.compile.new.loops c.compile.new.work
    c.zero_all.new.s c.zero_all.ensures c.in-Tables.p c.in-Tables.o c.in-Tables.l
    (compiled (c.before.before.before.before.before.before.before.before.before.before.before.before.before.before.before.before) _ c.in-Tables.is) c.if-counts-lt3.true
    c.zero_all-then-counts-lt3.new.s c.zero_all-then-counts-lt3-2.new.s
    c.zero_all-then-counts-lt3-3.new.s
    c.zero_all-then-counts-lt3.ensures c.zero_all-then-counts-lt3-2.ensures
    c.zero_all-then-counts-lt3-3.ensures
    c.compile.auto.pairs c.compile.auto.ops c.compile.auto.loops

put-three-requires : tie.Need-put_three-requires
put-three-requires c κs = search rules

same-length-6 : tie.Need-shape_of-pairs-in-Refused
same-length-6 c = search rules

same-length-7 : tie.Need-shape_of-ops-in-Refused
same-length-7 c = search rules

same-length-8 : tie.Need-shape_of-loops-in-Refused
same-length-8 c = search rules

same-length-9 : tie.Need-shape_of-work-in-Refused
same-length-9 c = search rules

same-length-10 : tie.Need-shape_of-counts-in-Refused
same-length-10 c = search rules

returns-2 : tie.Need-returns-in-Refused
returns-2 c =
    let a = c.args in
    counts_refused (font (c.before.before.before.before.before.before.before.before.before.before.before.before.before.before.before.before.before.before.before)) (late (c.before.before.before.before.before.before.before.before.before.before.before.before.before.before.before.before.before.before.before)) a.pairs.now a.ops.now a.loops.now a.work.now a.counts.now c.compile.new.pairs c.compile.new.ops c.compile.new.loops c.compile.new.work
    c.zero_all.new.s c.zero_all.ensures c.in-Refused.n
    (compiled (c.before.before.before.before.before.before.before.before) _ c.in-Refused.is)
    c.lower_of.result (c.lower_of.ensures ∙ ap (lower c.in-Refused.n) c.room_refusal.ensures)

same-length-11 : tie.Need-shape_of-pairs-else-counts-lt3
same-length-11 c = search rules

same-length-12 : tie.Need-shape_of-ops-else-counts-lt3
same-length-12 c = search rules

same-length-13 : tie.Need-shape_of-loops-else-counts-lt3
same-length-13 c = search rules

same-length-14 : tie.Need-shape_of-work-else-counts-lt3
same-length-14 c = search rules

same-length-15 : tie.Need-shape_of-counts-else-counts-lt3
same-length-15 c = search rules

returns-3 : tie.Need-returns-else-counts-lt3
returns-3 c =
    let a = c.args in
    counts_taken (font (c.before.before.before.before.before.before.before.before.before.before.before.before.before.before.before.before.before.before.before.before.before.before)) (late (c.before.before.before.before.before.before.before.before.before.before.before.before.before.before.before.before.before.before.before.before.before.before)) a.pairs.now a.ops.now a.loops.now a.work.now a.counts.now c.compile.new.pairs c.compile.new.ops c.compile.new.loops c.compile.new.work
    c.zero_all.new.s c.zero_all.ensures c.in-Tables.p c.in-Tables.o c.in-Tables.l
    (compiled (c.before.before.before.before.before.before.before.before.before.before.before) _ c.in-Tables.is) c.if-counts-lt3.false c.put_three.new.s c.put_three.ensures

pub ligkern_compile_spec : {M : Type 1} → statement M
ligkern_compile_spec =
    tie.close
    (tie.spec
    zero-u64-requires
    compile-requires
    enum-known-n
    room-refusal-requires
    lower-of-requires
    enum-known-p
    zero-i32-requires
    zero-i32-requires-2
    zero-i32-requires-3
    same_length
    same-length-2
    same-length-3
    same-length-4
    same-length-5
    returns
    put-three-requires
    same-length-6
    same-length-7
    same-length-8
    same-length-9
    same-length-10
    returns-2
    same-length-11
    same-length-12
    same-length-13
    same-length-14
    same-length-15
    returns-3)
