-- `compile_loops::find_loops` meets its contract: proofs/WalkedFonts, of the rows that were settled.
-- Assumes nothing.
use Prim.Native.Nat.{◌/◌, min}
use lib.IntN.{pos}
use lib.ListN.{length}
use Rattle.words.proofs.Bits.{number_word}
use Rattle.fonts.specs.Fonts.{Font, font_of}
use Rattle.fonts.proofs.Lent.{lent_as}
use Rattle.compiling.specs.declared.SettledFont.{SettledFont}
use Rattle.compile_settle.specs.Settles.{Settles}
use Rattle.compile_loops.proofs.WalkedFonts.{unfit, walked, finds_loops}
use borrow.Author.Rules.{rules}
use Rattle.compile_loops.proofs.find_loops.Statement.{statement}
use Rattle.compile_loops.proofs.find_loops.Tie as tie

settle-requires : tie.Need-settle-requires
settle-requires c κs = search rules

enum-known-number : tie.Need-enum_known-number
enum-known-number c = search rules

enum-known-n : tie.Need-enum_known-n
enum-known-n c = search rules

walk-rows-requires : tie.Need-walk_rows-r-requires
walk-rows-requires c κs =
    let a = c.args in
    let w = c.settle.new.work in
    let p =
    (lent_as (λ (f : Font) (r : SettledFont). Settles f (min a.room (length a.work.now / 16)) a.work.now w r) a.instructions.now
    a.kerns.now a.entries.now (pos 0) _ a.left_entry _ a.design_size c.settle.result _ (c.settle.ensures (pos 0))
    c.in-Rows.is (number_word a.left_entry c.ranges.left_entry)
    (number_word a.design_size c.ranges.design_size)).rows in
    (p.4.encoded, (_, p.4.settled), p.4.turns, p.4.unmet)

same_length : tie.Need-shape_of-work-in-Refused
same_length c = search rules

returns : tie.Need-returns-in-Refused
returns c = λ b.
    let a = c.args in
    let w = c.settle.new.work in
    let cap = min a.room (length a.work.now / 16) in
    let p =
    (lent_as (λ (f : Font) (r : SettledFont). Settles f cap a.work.now w r) a.instructions.now a.kerns.now a.entries.now b _
    a.left_entry _ a.design_size c.settle.result _ (c.settle.ensures b) c.in-Refused.is
    (number_word a.left_entry c.ranges.left_entry) (number_word a.design_size c.ranges.design_size)).rows in
    finds_loops _ _ _ _ _
    (unfit (font_of a.instructions.now a.kerns.now a.entries.now b a.left_entry a.design_size) cap a.work.now w
    c.in-Refused.number p)

same-length-2 : tie.Need-shape_of-work-in-Rows
same-length-2 c = search rules

returns-2 : tie.Need-returns-in-Rows
returns-2 c = λ b.
    let a = c.args in
    let w = c.settle.new.work in
    let cap = min a.room (length a.work.now / 16) in
    let p =
    (lent_as (λ (f : Font) (r : SettledFont). Settles f cap a.work.now w r) a.instructions.now a.kerns.now a.entries.now b _
    a.left_entry _ a.design_size c.settle.result _ (c.settle.ensures b) c.in-Rows.is
    (number_word a.left_entry c.ranges.left_entry) (number_word a.design_size c.ranges.design_size)).rows in
    finds_loops _ _ _ _ _
    (walked (font_of a.instructions.now a.kerns.now a.entries.now b a.left_entry a.design_size) cap a.work.now w c.in-Rows.n
    c.in-Rows.e c.in-Rows.m c.walk_rows-r.result c.in-Rows.scaled c.walk_rows-r.new.work p c.walk_rows-r.ensures)

pub find_loops_spec : {M : Type 1} → statement M
find_loops_spec =
    tie.close
    (tie.spec
    settle-requires
    enum-known-number
    enum-known-n
    walk-rows-requires
    same_length
    returns
    same-length-2
    returns-2)
