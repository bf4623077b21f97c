-- `read_step::one_step` meets its contract: a step of the items that stand, or 7.
-- Assumes nothing.
use mathlib.Core.Path.{refl}
use Rattle.words.proofs.Bits.{number_word}
use Rattle.fonts.specs.Fonts.{Font, font_of, rules_of}
use Rattle.fonts.proofs.Lent.{lent_as}
use Rattle.readings.specs.declared.OneStep.{OneStep}
use Rattle.readings.specs.Lists.{StepsOnce}
use Rattle.read_step.proofs.Stepping.{standing_known, not_standing}
use borrow.Author.Rules.{rules}
use Rattle.read_step.proofs.one_step.Statement.{statement}
use Rattle.read_step.proofs.one_step.Tie as tie

stands-requires : tie.Need-stands-requires
stands-requires c κs = search rules

step-standing-requires : tie.Need-step_standing-requires
step-standing-requires c κs =
    let a = c.args in
    standing_known c.stands.result a.items.now a.count a.cursor c.stands.ensures c.if-stands.true

same_length : tie.Need-shape_of-items-then-stands
same_length c = search rules

returns : tie.Need-returns-then-stands
returns c = λ b.
    let a = c.args in
    lent_as (λ (f : Font) (r : OneStep). StepsOnce (rules_of f) a.items.now a.count a.cursor r c.step_standing.new.items)
    a.instructions.now a.kerns.now a.entries.now b _ a.left_entry _ a.design_size c.step_standing.result c.step_standing.result
    (c.step_standing.ensures b) refl (number_word a.left_entry c.ranges.left_entry) (number_word a.design_size c.ranges.design_size)

zero-all-requires : tie.Need-zero_all-requires
zero-all-requires c κs = search rules

same-length-2 : tie.Need-shape_of-items
same-length-2 c = search rules

returns-2 : tie.Need-returns
returns-2 c = λ b.
    let a = c.args in
    not_standing (rules_of (font_of a.instructions.now a.kerns.now a.entries.now b a.left_entry a.design_size)) a.items.now a.count
    a.cursor c.zero_all.new.s c.stands.result c.stands.ensures c.if-stands.false c.zero_all.ensures

pub one_step_spec : {M : Type 1} → statement M
one_step_spec =
    tie.close
    (tie.spec
    stands-requires
    step-standing-requires
    same_length
    returns
    zero-all-requires
    same-length-2
    returns-2)
