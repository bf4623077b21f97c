-- `compile::compile` meets its contract: proofs/Whole.
-- Assumes nothing.
use mathlib.Core.Path.{◌≡◌, refl, sym, ap, ◌∙◌}
use Prim.Native.Nat.{ℕ}
use lib.IntN.{pos}
use borrow.Author.Rules.{rules}
use Rattle.words.proofs.Bits.{number_word}
use Rattle.tfm.specs.Scaled.{asked_refusal, design_at}
use Rattle.tfm.proofs.Sizes.{refusal_as, design_as}
use Rattle.fonts.specs.declared.Compiled.{Compiled}
use Rattle.fonts.specs.Fonts.{Font, font_of}
use Rattle.fonts.specs.Compiled.{font_refusal}
use Rattle.fonts.proofs.Lent.{lent_as}
use Rattle.compile_lists.specs.Builds.{Builds}
use Rattle.c_values.specs.Telling.{kept}
use Rattle.compile.specs.Late.{late_answer}
use Rattle.compile.proofs.Whole.{number_as, refused, compiled}
use Rattle.compile.proofs.compile.Statement.{statement}
use Rattle.compile.proofs.compile.Tie as tie

-- the font at the design size of the size, and the size's number
font : (s : tie.Start) → Font
font s =
    let a = s.args in
    font_of a.instructions.now a.kerns.now a.entries.now a.boundary a.left_entry (design_at a.design_size a.size a.magnification)

late : (s : tie.Start) → ℕ
late s = let a = s.args in asked_refusal a.design_size a.size a.magnification

-- the number of 1 to 5, of that font
early : (c : tie.After-font_refusal-number) → c.font_refusal-number.result ≡ font_refusal (font c.before.before.before)
unfolding font
early c =
    let a = c.args in
    let f = c.ranges in
    let z = design_as a.design_size a.size a.magnification f.design_size f.size f.magnification c.design_at-design.ensures in
    number_as a.instructions.now a.kerns.now a.entries.now _ a.boundary _ a.left_entry _
    (design_at a.design_size a.size a.magnification) c.font_refusal-number.result c.font_refusal-number.ensures
    (number_word a.boundary f.boundary) (number_word a.left_entry f.left_entry) z

design-at-requires : tie.Need-design_at-design-requires
design-at-requires c κs = search rules

font-refusal-requires : tie.Need-font_refusal-number-requires
font-refusal-requires c κs = search rules

zero-i32-requires : tie.Need-zero_all-requires
zero-i32-requires c κs = search rules

zero-i32-requires-2 : tie.Need-zero_all-requires-then-number-ne0
zero-i32-requires-2 c κs = search rules

zero-i32-requires-3 : tie.Need-zero_all-requires-then-number-ne0-2
zero-i32-requires-3 c κs = search rules

zero-u32-requires : tie.Need-zero_all-requires-then-number-ne0-3
zero-u32-requires c κs = search rules

same_length : tie.Need-shape_of-pairs-then-number-ne0
same_length c = search rules

same-length-2 : tie.Need-shape_of-ops-then-number-ne0
same-length-2 c = search rules

same-length-3 : tie.Need-shape_of-loops-then-number-ne0
same-length-3 c = search rules

same-length-4 : tie.Need-shape_of-work-then-number-ne0
same-length-4 c = search rules

returns : tie.Need-returns-then-number-ne0
unfolding font late
returns c =
    let a = c.args in
    refused (font (c.before.before.before.before.before.before.before.before.before.before.before.before.before.before.before.before.before)) (late (c.before.before.before.before.before.before.before.before.before.before.before.before.before.before.before.before.before)) a.pairs.now a.ops.now a.loops.now a.work.now c.font_refusal-number.result (early (c.before.before.before.before.before.before.before.before.before.before.before.before.before.before)) c.if-number-ne0.true
    c.zero_all.new.s c.zero_all-then-number-ne0.new.s c.zero_all-then-number-ne0-2.new.s c.zero_all-then-number-ne0-3.new.s c.zero_all.ensures c.zero_all-then-number-ne0.ensures c.zero_all-then-number-ne0-2.ensures c.zero_all-then-number-ne0-3.ensures

write-lists-requires : tie.Need-write_lists-compiled-requires
write-lists-requires c κs = search rules

asked-refusal-requires : tie.Need-asked_refusal-late-requires
asked-refusal-requires c κs = search rules

keep-i32-requires : tie.Need-keep_list-requires
keep-i32-requires c κs = search rules

keep-i32-requires-2 : tie.Need-keep_list-requires-2
keep-i32-requires-2 c κs = search rules

keep-i32-requires-3 : tie.Need-keep_list-requires-3
keep-i32-requires-3 c κs = search rules

late-answer-requires : tie.Need-late_answer-requires
late-answer-requires c κs = search rules

same-length-5 : tie.Need-shape_of-pairs
same-length-5 c = search rules

same-length-6 : tie.Need-shape_of-ops
same-length-6 c = search rules

same-length-7 : tie.Need-shape_of-loops
same-length-7 c = search rules

same-length-8 : tie.Need-shape_of-work
same-length-8 c = search rules

returns-2 : tie.Need-returns
unfolding font late
returns-2 c =
    let a = c.args in
    let f = c.ranges in
    let y = number_word a.left_entry f.left_entry in
    let z = design_as a.design_size a.size a.magnification f.design_size f.size f.magnification c.design_at-design.ensures in
    let n = refusal_as a.design_size a.size a.magnification f.design_size f.size f.magnification c.asked_refusal-late.ensures in
    let b = lent_as
    (λ (g : Font) (r : Compiled). Builds g a.pairs.now a.ops.now a.loops.now a.work.now r c.write_lists-compiled.new.pairs c.write_lists-compiled.new.ops c.write_lists-compiled.new.loops c.write_lists-compiled.new.work)
    a.instructions.now a.kerns.now a.entries.now a.boundary _ a.left_entry _ (design_at a.design_size a.size a.magnification)
    c.write_lists-compiled.result c.write_lists-compiled.result (c.write_lists-compiled.ensures a.boundary) refl y z in
    compiled (font (c.before.before.before.before.before.before.before.before.before.before.before.before.before.before.before.before.before.before.before.before.before.before.before.before.before)) (late (c.before.before.before.before.before.before.before.before.before.before.before.before.before.before.before.before.before.before.before.before.before.before.before.before.before)) a.pairs.now a.ops.now a.loops.now a.work.now c.write_lists-compiled.result c.write_lists-compiled.new.pairs c.write_lists-compiled.new.ops c.write_lists-compiled.new.loops
    c.write_lists-compiled.auto.pairs c.write_lists-compiled.auto.ops c.write_lists-compiled.auto.loops c.write_lists-compiled.new.work (sym c.if-number-ne0.false ∙ early c.before.before.before.before.before.before.before.before.before.before.before.before.before.before.before.before.before.before.before.before.before.before) b c.late_answer.result
    (c.late_answer.ensures ∙ ap (λ (j : ℕ). late_answer j c.write_lists-compiled.result) n)
    c.keep_list.new.out c.keep_list-2.new.out c.keep_list-3.new.out
    (c.keep_list.ensures ∙ ap (λ (j : ℕ). kept j (pos 0) c.write_lists-compiled.new.pairs) n) (c.keep_list-2.ensures ∙ ap (λ (j : ℕ). kept j (pos 0) c.write_lists-compiled.new.ops) n)
    (c.keep_list-3.ensures ∙ ap (λ (j : ℕ). kept j (pos 0) c.write_lists-compiled.new.loops) n)

pub compile_spec : {M : Type 1} → statement M
compile_spec =
    tie.close
    (tie.spec
    design-at-requires
    font-refusal-requires
    zero-i32-requires
    zero-i32-requires-2
    zero-i32-requires-3
    zero-u32-requires
    same_length
    same-length-2
    same-length-3
    same-length-4
    returns
    write-lists-requires
    asked-refusal-requires
    keep-i32-requires
    keep-i32-requires-2
    keep-i32-requires-3
    late-answer-requires
    same-length-5
    same-length-6
    same-length-7
    same-length-8
    returns-2)
