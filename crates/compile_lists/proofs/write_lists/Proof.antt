-- `compile_lists::write_lists` meets its contract: proofs/Building, of the font whose rows were counted and whose ops were written.
-- Assumes nothing.
use lib.IntN.{pos}
use lib.ListN.{length}
use Rattle.words.proofs.Bits.{number_word}
use Rattle.fonts.specs.Fonts.{Font, font_of}
use Rattle.fonts.proofs.Lent.{lent_as}
use Rattle.compiling.specs.declared.CountedFont.{CountedFont}
use Rattle.compile_ops.specs.WritesOps.{WritesOps}
use Rattle.compile_lists.proofs.Building.{pairs_blank, loops_blank, loop_room, few, unfit, built}
use borrow.Author.Rules.{rules}
use Rattle.compile_lists.proofs.write_lists.Statement.{statement}
use Rattle.compile_lists.proofs.write_lists.Tie as tie

zero-i32-requires : tie.Need-zero_all-requires
zero-i32-requires c κs = search rules

zero-i32-requires-2 : tie.Need-zero_all-requires-2
zero-i32-requires-2 c κs = search rules

write-ops-requires : tie.Need-write_ops-requires
write-ops-requires c κs = search rules

enum-known-number : tie.Need-enum_known-number
enum-known-number c = search rules

enum-known-n : tie.Need-enum_known-n
enum-known-n c = search rules

write-pairs-requires : tie.Need-write_pairs-numbers-requires
write-pairs-requires c κs =
    let a = c.args in
    let u = c.write_ops.new in
    let f = font_of a.instructions.now a.kerns.now a.entries.now (pos 0) a.left_entry a.design_size in
    let p = lent_as (λ (x : Font) (r : CountedFont). WritesOps x (length c.zero_all.new.s) (length c.zero_all-2.new.s) a.ops.now a.work.now u.ops u.work r)
    a.instructions.now a.kerns.now a.entries.now (pos 0) _ a.left_entry _ a.design_size c.write_ops.result _
    (c.write_ops.ensures (pos 0)) c.in-Sizes.is (number_word a.left_entry c.ranges.left_entry) (number_word a.design_size c.ranges.design_size)
    in (
      p.rows.4.ready,
      p.rows.3,
      pairs_blank f a.pairs.now a.ops.now a.loops.now c.zero_all.new.s c.zero_all-2.new.s a.work.now u.work c.zero_all.ensures c.zero_all-2.ensures u.ops,
    )

write-loops-requires : tie.Need-write_loops-requires
write-loops-requires c κs =
    let a = c.args in
    let u = c.write_ops.new in
    let f = font_of a.instructions.now a.kerns.now a.entries.now (pos 0) a.left_entry a.design_size in
    let p = lent_as (λ (x : Font) (r : CountedFont). WritesOps x (length c.zero_all.new.s) (length c.zero_all-2.new.s) a.ops.now a.work.now u.ops u.work r)
    a.instructions.now a.kerns.now a.entries.now (pos 0) _ a.left_entry _ a.design_size c.write_ops.result _
    (c.write_ops.ensures (pos 0)) c.in-Sizes.is (number_word a.left_entry c.ranges.left_entry) (number_word a.design_size c.ranges.design_size)
    in (
      few f a.pairs.now a.ops.now a.loops.now c.zero_all.new.s c.zero_all-2.new.s a.work.now u.work c.zero_all.ensures c.zero_all-2.ensures u.ops c.in-Sizes.n
          c.in-Sizes.m c.in-Sizes.total c.in-Sizes.r p,
      loop_room f a.pairs.now a.ops.now a.loops.now c.zero_all.new.s c.zero_all-2.new.s a.work.now u.work c.zero_all.ensures c.zero_all-2.ensures u.ops
          c.in-Sizes.n c.in-Sizes.m c.in-Sizes.total c.in-Sizes.r p,
      loops_blank f a.pairs.now a.ops.now a.loops.now c.zero_all.new.s c.zero_all-2.new.s a.work.now u.work c.zero_all.ensures c.zero_all-2.ensures u.ops,
      p.rows.4.listing,
    )

zero-u32-requires : tie.Need-zero_all-requires-in-Sizes
zero-u32-requires c κs = search rules

cast-t41 : tie.Need-overflow_cast-result
cast-t41 c = search rules

same_length : tie.Need-shape_of-pairs-in-Refused
same_length c = search rules

same-length-2 : tie.Need-shape_of-ops-in-Refused
same-length-2 c = search rules

same-length-3 : tie.Need-shape_of-loops-in-Refused
same-length-3 c = search rules

same-length-4 : tie.Need-shape_of-work-in-Refused
same-length-4 c = search rules

returns : tie.Need-returns-in-Refused
returns c = λ b.
    let a = c.args in
    let u = c.write_ops.new in
    let f = font_of a.instructions.now a.kerns.now a.entries.now b a.left_entry a.design_size in
    let p = lent_as (λ (x : Font) (r : CountedFont). WritesOps x (length c.zero_all.new.s) (length c.zero_all-2.new.s) a.ops.now a.work.now u.ops u.work r)
    a.instructions.now a.kerns.now a.entries.now b _ a.left_entry _ a.design_size c.write_ops.result _ (c.write_ops.ensures b)
    c.in-Refused.is (number_word a.left_entry c.ranges.left_entry) (number_word a.design_size c.ranges.design_size) in
    unfit f a.pairs.now a.ops.now a.loops.now c.zero_all.new.s c.zero_all-2.new.s a.work.now u.work c.zero_all.ensures c.zero_all-2.ensures u.ops c.in-Refused.number p

same-length-5 : tie.Need-shape_of-pairs-in-Sizes
same-length-5 c = search rules

same-length-6 : tie.Need-shape_of-ops-in-Sizes
same-length-6 c = search rules

same-length-7 : tie.Need-shape_of-loops-in-Sizes
same-length-7 c = search rules

same-length-8 : tie.Need-shape_of-work-in-Sizes
same-length-8 c = search rules

returns-2 : tie.Need-returns-in-Sizes
returns-2 c = λ b.
    let a = c.args in
    let u = c.write_ops.new in
    let f = font_of a.instructions.now a.kerns.now a.entries.now b a.left_entry a.design_size in
    let p = lent_as (λ (x : Font) (r : CountedFont). WritesOps x (length c.zero_all.new.s) (length c.zero_all-2.new.s) a.ops.now a.work.now u.ops u.work r)
    a.instructions.now a.kerns.now a.entries.now b _ a.left_entry _ a.design_size c.write_ops.result _ (c.write_ops.ensures b)
    c.in-Sizes.is (number_word a.left_entry c.ranges.left_entry) (number_word a.design_size c.ranges.design_size) in
    built f a.pairs.now a.ops.now a.loops.now c.zero_all.new.s c.zero_all-2.new.s a.work.now u.work c.zero_all.ensures c.zero_all-2.ensures u.ops c.in-Sizes.n
    c.in-Sizes.m c.in-Sizes.total c.in-Sizes.r p c.write_pairs-numbers.result c.write_pairs-numbers.new.pairs c.write_loops.new.out c.zero_all-in-Sizes.new.s c.write_pairs-numbers.ensures.0 c.write_pairs-numbers.ensures.1
    c.write_loops.ensures c.zero_all-in-Sizes.ensures

pub write_lists_spec : {M : Type 1} → statement M
write_lists_spec =
    tie.close
    (tie.spec
    zero-i32-requires
    zero-i32-requires-2
    write-ops-requires
    enum-known-number
    enum-known-n
    write-pairs-requires
    write-loops-requires
    zero-u32-requires
    cast-t41
    same_length
    same-length-2
    same-length-3
    same-length-4
    returns
    same-length-5
    same-length-6
    same-length-7
    same-length-8
    returns-2)
