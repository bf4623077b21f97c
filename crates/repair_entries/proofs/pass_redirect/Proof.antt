-- `repair_entries::pass_redirect` meets its contract: by the two tests.
-- Assumes nothing.
use mathlib.Core.Path.{sym, ◌∙◌}
use borrow.Author.Rules.{rules}
use Rattle.repair_entries.proofs.Entering.{not_followed, no_redirect, followed}
use Rattle.repair_entries.proofs.pass_redirect.Statement.{statement}
use Rattle.repair_entries.proofs.pass_redirect.Tie as tie

entry-refusal-requires : tie.Need-entry_refusal-requires
entry-refusal-requires c κs = search rules

returns : tie.Need-returns-then-entry_refusal-ne0
returns c =
    let a = c.args in
    not_followed a.instructions.now a.entry a.through.now c.entry_refusal.ensures c.if-entry_refusal-ne0.true

is-redirect-requires : tie.Need-is_redirect-requires
is-redirect-requires c κs = search rules

put-item-requires : tie.Need-put_item-requires
put-item-requires c κs = search rules

same_length : tie.Need-shape_of-through
same_length c = search rules

returns-2 : tie.Need-returns-then-is_redirect
returns-2 c =
    let a = c.args in
    followed a.instructions.now a.entry a.through.now c.entry_refusal.ensures c.if-entry_refusal-ne0.false
    (sym c.is_redirect.ensures ∙ c.if-is_redirect.true) c.put_item.ensures

returns-3 : tie.Need-returns-else-is_redirect
returns-3 c =
    let a = c.args in
    no_redirect a.instructions.now a.entry a.through.now (sym c.is_redirect.ensures ∙ c.if-is_redirect.false)

pub pass_redirect_spec : {M : Type 1} → statement M
pass_redirect_spec =
    tie.close
    (tie.spec
    entry-refusal-requires
    returns
    is-redirect-requires
    put-item-requires
    same_length
    returns-2
    returns-3)
