-- `compile_op_counts::count` meets its contract: proofs/CountedFonts, of the font whose loops were found.
-- Assumes nothing.
use mathlib.Core.Path.{refl}
use Prim.Native.Nat.{◌/◌, min}
use lib.IntN.{pos}
use lib.ListN.{length}
use Rattle.words.proofs.Bits.{number_word}
use Rattle.fonts.specs.Fonts.{Font, font_of}
use Rattle.fonts.specs.Compiled.{room_of}
use Rattle.fonts.proofs.Lent.{lent_as}
use Rattle.compiling.specs.declared.WalkedFont.{WalkedFont}
use Rattle.compile_loops.specs.FindsLoops.{FindsLoops}
use Rattle.compile_op_counts.proofs.CountedFonts.{unfit, counts, counts_font}
use borrow.Author.Rules.{rules}
use Rattle.compile_op_counts.proofs.count.Statement.{statement}
use Rattle.compile_op_counts.proofs.count.Tie as tie

find-loops-requires : tie.Need-find_loops-requires
find-loops-requires c κs = search rules

enum-known-number : tie.Need-enum_known-number
enum-known-number c = search rules

enum-known-n : tie.Need-enum_known-n
enum-known-n c = search rules

measure-requires : tie.Need-measure-requires
measure-requires c κs =
    let a = c.args in
    let w = c.find_loops.new.work in
    let p =
    (lent_as (λ (f : Font) (r : WalkedFont). FindsLoops f (min (a.pair_room / 6) (length a.work.now / 16)) a.work.now w r)
    a.instructions.now a.kerns.now a.entries.now (pos 0) _ a.left_entry _ a.design_size c.find_loops.result _
    (c.find_loops.ensures (pos 0)) c.in-Rows.is (number_word a.left_entry c.ranges.left_entry)
    (number_word a.design_size c.ranges.design_size)).rows in
    (_, p.4)

same_length : tie.Need-shape_of-work-in-Refused
same_length c = search rules

returns : tie.Need-returns-in-Refused
returns c = λ b.
    let a = c.args in
    let w = c.find_loops.new.work in
    let p =
    (lent_as (λ (f : Font) (r : WalkedFont). FindsLoops f (min (a.pair_room / 6) (length a.work.now / 16)) a.work.now w r)
    a.instructions.now a.kerns.now a.entries.now b _ a.left_entry _ a.design_size c.find_loops.result _
    (c.find_loops.ensures b) c.in-Refused.is (number_word a.left_entry c.ranges.left_entry)
    (number_word a.design_size c.ranges.design_size)).rows in
    counts_font _ _ _ _ _
    (unfit (font_of a.instructions.now a.kerns.now a.entries.now b a.left_entry a.design_size)
    (room_of a.pair_room a.op_room a.loop_room (length a.work.now)) a.work.now refl c.in-Refused.number w p)

same-length-2 : tie.Need-shape_of-work-in-Rows
same-length-2 c = search rules

returns-2 : tie.Need-returns-in-Rows
returns-2 c = λ b.
    let a = c.args in
    let w = c.find_loops.new.work in
    let p =
    (lent_as (λ (f : Font) (r : WalkedFont). FindsLoops f (min (a.pair_room / 6) (length a.work.now / 16)) a.work.now w r)
    a.instructions.now a.kerns.now a.entries.now b _ a.left_entry _ a.design_size c.find_loops.result _
    (c.find_loops.ensures b) c.in-Rows.is (number_word a.left_entry c.ranges.left_entry)
    (number_word a.design_size c.ranges.design_size)).rows in
    counts_font _ _ _ _ _
    (counts (font_of a.instructions.now a.kerns.now a.entries.now b a.left_entry a.design_size)
    (room_of a.pair_room a.op_room a.loop_room (length a.work.now)) a.work.now refl c.in-Rows.n c.in-Rows.m c.in-Rows.r
    c.in-Rows.scaled w c.measure.new.work p c.measure.result
    (c.measure.ensures (font_of a.instructions.now a.kerns.now a.entries.now b a.left_entry a.design_size) p.4))

pub count_spec : {M : Type 1} → statement M
count_spec =
    tie.close
    (tie.spec
    find-loops-requires
    enum-known-number
    enum-known-n
    measure-requires
    same_length
    returns
    same-length-2
    returns-2)
