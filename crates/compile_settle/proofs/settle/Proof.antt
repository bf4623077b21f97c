-- `compile_settle::settle` meets its contract: proofs/SettledFonts, of the rows that were prepared.
-- Assumes nothing.
use Prim.Native.Nat.{◌/◌, min}
use lib.IntN.{pos}
use lib.ListN.{length}
use Rattle.words.proofs.Bits.{number_word}
use Rattle.fonts.specs.Fonts.{Font, font_of}
use Rattle.fonts.proofs.Lent.{lent_as}
use Rattle.compiling.specs.declared.Prepared.{Prepared}
use Rattle.compile_prepare.specs.Prepares.{Prepares}
use Rattle.compile_settle.proofs.SettledFonts.{unfit, settled, settles}
use borrow.Author.Rules.{rules}
use Rattle.compile_settle.proofs.settle.Statement.{statement}
use Rattle.compile_settle.proofs.settle.Tie as tie

prepare-requires : tie.Need-prepare-requires
prepare-requires c κs = search rules

enum-known-number : tie.Need-enum_known-number
enum-known-number c = search rules

enum-known-n : tie.Need-enum_known-n
enum-known-n c = search rules

settle-rows-requires : tie.Need-settle_rows-m-requires
settle-rows-requires c κs =
    let a = c.args in
    let w = c.prepare.new.work in
    let p =
    (lent_as (λ (f : Font) (r : Prepared). Prepares f (min a.room (length a.work.now / 16)) a.work.now w r) a.instructions.now
    a.kerns.now a.entries.now (pos 0) _ a.left_entry _ a.design_size c.prepare.result _ (c.prepare.ensures (pos 0))
    c.in-Rows.is (number_word a.left_entry c.ranges.left_entry)
    (number_word a.design_size c.ranges.design_size)).rows in
    (p.4.encoded, p.4.new)

same_length : tie.Need-shape_of-work-in-Refused
same_length c = search rules

returns : tie.Need-returns-in-Refused
returns c = λ b.
    let a = c.args in
    let w = c.prepare.new.work in
    let cap = min a.room (length a.work.now / 16) in
    let p =
    (lent_as (λ (f : Font) (r : Prepared). Prepares f cap a.work.now w r) a.instructions.now a.kerns.now a.entries.now b _
    a.left_entry _ a.design_size c.prepare.result _ (c.prepare.ensures b) c.in-Refused.is
    (number_word a.left_entry c.ranges.left_entry) (number_word a.design_size c.ranges.design_size)).rows in
    settles _ _ _ _ _
    (unfit (font_of a.instructions.now a.kerns.now a.entries.now b a.left_entry a.design_size) cap a.work.now w
    c.in-Refused.number p)

same-length-2 : tie.Need-shape_of-work-in-Rows
same-length-2 c = search rules

returns-2 : tie.Need-returns-in-Rows
returns-2 c = λ b.
    let a = c.args in
    let w = c.prepare.new.work in
    let cap = min a.room (length a.work.now / 16) in
    let p =
    (lent_as (λ (f : Font) (r : Prepared). Prepares f cap a.work.now w r) a.instructions.now a.kerns.now a.entries.now b _
    a.left_entry _ a.design_size c.prepare.result _ (c.prepare.ensures b) c.in-Rows.is
    (number_word a.left_entry c.ranges.left_entry) (number_word a.design_size c.ranges.design_size)).rows in
    settles _ _ _ _ _
    (settled (font_of a.instructions.now a.kerns.now a.entries.now b a.left_entry a.design_size) cap a.work.now w c.in-Rows.n
    c.in-Rows.e c.settle_rows-m.result c.in-Rows.scaled c.settle_rows-m.new.work p c.settle_rows-m.ensures)

pub settle_spec : {M : Type 1} → statement M
settle_spec =
    tie.close
    (tie.spec
    prepare-requires
    enum-known-number
    enum-known-n
    settle-rows-requires
    same_length
    returns
    same-length-2
    returns-2)
