-- `reach::state_of` meets its contract: its tests are those of the definition, in the same order.
-- Assumes nothing.
use mathlib.Core.Path.{sym, ◌∙◌}
use borrow.Author.Rules.{rules}
use Rattle.reach.proofs.Numbers.{state_marked, state_through, state_bare}
use Rattle.reach.proofs.state_of.Statement.{statement}
use Rattle.reach.proofs.state_of.Tie as tie

item-at-requires : tie.Need-item_at-requires
item-at-requires c κs = search rules

returns : tie.Need-returns-then-item_at-ne0
returns c =
    let a = c.args in
    state_marked a.marks.now a.passthrough.now a.i (λ e. c.if-item_at-ne0.true (c.item_at.ensures ∙ e))

item-at-requires-2 : tie.Need-item_at-requires-2
item-at-requires-2 c κs = search rules

returns-2 : tie.Need-returns-then-item_at-ne0-2
returns-2 c =
    let a = c.args in
    state_through a.marks.now a.passthrough.now a.i (sym c.item_at.ensures ∙ c.if-item_at-ne0.false)
    (λ e. c.if-item_at-ne0-2.true (c.item_at-2.ensures ∙ e))

returns-3 : tie.Need-returns
returns-3 c =
    let a = c.args in
    state_bare a.marks.now a.passthrough.now a.i (sym c.item_at.ensures ∙ c.if-item_at-ne0.false)
    (sym c.item_at-2.ensures ∙ c.if-item_at-ne0-2.false)

pub state_of_spec : {M : Type 1} → statement M
state_of_spec =
    tie.close
    (tie.spec
    item-at-requires
    returns
    item-at-requires-2
    returns-2
    returns-3)
