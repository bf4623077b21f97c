-- `text_convert_lines::instructions_in` meets its contract. Assumes nothing.
use mathlib.Core.Path.{sym, ◌∙◌}
use lib.ListN.{get_or}
use borrow.Author.Rules.{rules}
use borrow.Author.Tests.{eq-eqb, ne_eqb}
use Rattle.text_convert_lines.proofs.instructions_in.Statement.{statement}
use Rattle.text_convert_lines.proofs.instructions_in.Tie as tie

item-at-requires : tie.Need-item_at-requires
item-at-requires c κs = search rules

returns : tie.Need-returns-then-item_at-eq73
returns c =
    let a = c.args in
    rw (eq-eqb (get_or a.text.now a.at 0) 73 (sym c.item_at.ensures ∙ c.if-item_at-eq73.true))

returns-2 : tie.Need-returns-else-item_at-eq73
returns-2 c =
    let a = c.args in
    rw (ne_eqb (get_or a.text.now a.at 0) 73 (λ e. c.if-item_at-eq73.false (c.item_at.ensures ∙ e)))

pub instructions_in_spec : {M : Type 1} → statement M
instructions_in_spec =
    tie.close
    (tie.spec
    item-at-requires
    returns
    returns-2)
