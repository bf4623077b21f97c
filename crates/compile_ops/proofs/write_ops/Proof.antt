-- `compile_ops::write_ops` meets its contract: proofs/WrittenOps, of the font whose rows were counted.
-- Assumes nothing.
use lib.IntN.{pos}
use lib.ListN.{length}
use Rattle.words.proofs.Bits.{number_word}
use Rattle.fonts.specs.Fonts.{Font, font_of}
use Rattle.fonts.specs.Compiled.{room_of}
use Rattle.fonts.proofs.Lent.{lent_as}
use Rattle.compiling.specs.declared.CountedFont.{CountedFont}
use Rattle.compile_op_counts.specs.Counting.{CountsFont}
use Rattle.compile_ops.proofs.WrittenOps.{unfit, op_room, blank_still, written}
use borrow.Author.Rules.{rules}
use Rattle.compile_ops.proofs.write_ops.Statement.{statement}
use Rattle.compile_ops.proofs.write_ops.Tie as tie

zero-all-requires : tie.Need-zero_all-requires
zero-all-requires c κs = search rules

count-requires : tie.Need-count-requires
count-requires c κs = search rules

enum-known-number : tie.Need-enum_known-number
enum-known-number c = search rules

enum-known-n : tie.Need-enum_known-n
enum-known-n c = search rules

write-rows-requires : tie.Need-write_rows-requires
write-rows-requires c κs =
    let a = c.args in
    let w = c.count.new.work in
    let f = font_of a.instructions.now a.kerns.now a.entries.now (pos 0) a.left_entry a.design_size in
    let p =
    (lent_as
    (λ (x : Font) (r : CountedFont). CountsFont x (room_of a.pair_room (length c.zero_all.new.s) a.loop_room (length a.work.now))
    a.work.now w r) a.instructions.now a.kerns.now a.entries.now (pos 0) _ a.left_entry _ a.design_size
    c.count.result _ (c.count.ensures (pos 0)) c.in-Sizes.is (number_word a.left_entry c.ranges.left_entry)
    (number_word a.design_size c.ranges.design_size)).rows in (
      p.4.ready,
      op_room f a.pair_room a.loop_room a.ops.now c.zero_all.new.s a.work.now w c.zero_all.ensures c.in-Sizes.n c.in-Sizes.m c.in-Sizes.total
          c.in-Sizes.r p,
      blank_still f a.pair_room a.loop_room a.ops.now c.zero_all.new.s a.work.now w c.zero_all.ensures c.in-Sizes.n c.in-Sizes.m c.in-Sizes.total
          c.in-Sizes.r p,
    )

same_length : tie.Need-shape_of-ops-in-Refused
same_length c = search rules

same-length-2 : tie.Need-shape_of-work-in-Refused
same-length-2 c = search rules

returns : tie.Need-returns-in-Refused
returns c = λ b.
    let a = c.args in
    let w = c.count.new.work in
    let p =
    (lent_as
    (λ (x : Font) (r : CountedFont). CountsFont x (room_of a.pair_room (length c.zero_all.new.s) a.loop_room (length a.work.now))
    a.work.now w r) a.instructions.now a.kerns.now a.entries.now b _ a.left_entry _ a.design_size c.count.result _
    (c.count.ensures b) c.in-Refused.is (number_word a.left_entry c.ranges.left_entry) (number_word a.design_size c.ranges.design_size)).rows
    in
    unfit (font_of a.instructions.now a.kerns.now a.entries.now b a.left_entry a.design_size) a.pair_room a.loop_room
    a.ops.now c.zero_all.new.s a.work.now w c.zero_all.ensures c.in-Refused.number p

same-length-3 : tie.Need-shape_of-ops-in-Sizes
same-length-3 c = search rules

same-length-4 : tie.Need-shape_of-work-in-Sizes
same-length-4 c = search rules

returns-2 : tie.Need-returns-in-Sizes
returns-2 c = λ b.
    let a = c.args in
    let w = c.count.new.work in
    let p =
    (lent_as
    (λ (x : Font) (r : CountedFont). CountsFont x (room_of a.pair_room (length c.zero_all.new.s) a.loop_room (length a.work.now))
    a.work.now w r) a.instructions.now a.kerns.now a.entries.now b _ a.left_entry _ a.design_size c.count.result _
    (c.count.ensures b) c.in-Sizes.is (number_word a.left_entry c.ranges.left_entry) (number_word a.design_size c.ranges.design_size)).rows
    in
    written (font_of a.instructions.now a.kerns.now a.entries.now b a.left_entry a.design_size) a.pair_room a.loop_room
    a.ops.now c.zero_all.new.s a.work.now w c.zero_all.ensures c.in-Sizes.n c.in-Sizes.m c.in-Sizes.total c.in-Sizes.r p c.write_rows.new.ops c.write_rows.ensures

pub write_ops_spec : {M : Type 1} → statement M
write_ops_spec =
    tie.close
    (tie.spec
    zero-all-requires
    count-requires
    enum-known-number
    enum-known-n
    write-rows-requires
    same_length
    same-length-2
    returns
    same-length-3
    same-length-4
    returns-2)
