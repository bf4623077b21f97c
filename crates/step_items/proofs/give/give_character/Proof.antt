-- `step_items::give::give_character` meets its contract, by whether a ligature is pending.
-- Assumes nothing.
use mathlib.Core.Path.{◌∙◌, sym}
use Rattle.step_items.proofs.Laws.{character_plain, character_pending}
use borrow.Author.Rules.{rules}
use Rattle.step_items.proofs.give.give_character.Statement.{statement}
use Rattle.step_items.proofs.give.give_character.Tie as tie

give-item-requires : tie.Need-give_item-requires
give-item-requires c κs = search rules

returns : tie.Need-returns-then-s-eq0
returns c =
    let a = c.args in
    c.give_item.ensures ∙ sym (character_plain a.c a.s c.if-s-eq0.true)

give-item-requires-2 : tie.Need-give_item-requires-2
give-item-requires-2 c κs = search rules

returns-2 : tie.Need-returns
returns-2 c =
    let a = c.args in
    c.give_item-2.ensures ∙ sym (character_pending a.c a.s c.if-s-eq0.false)

pub give_character_spec : {M : Type 1} → statement M
give_character_spec =
    tie.close
    (tie.spec
    give-item-requires
    returns
    give-item-requires-2
    returns-2)
