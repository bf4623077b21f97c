-- `entry_targets::entry_refusal` meets its contract: one answer for each way through the tests, in the definition's order.
-- Assumes nothing.
use mathlib.Core.Path.{sym, ◌∙◌}
use borrow.Author.Tests.{not-true, not-false}
use borrow.Author.Rules.{rules}
use Rattle.entry_targets.proofs.Targets.{entry_past, entry_plain, entry_followed, entry_far}
use Rattle.entry_targets.proofs.entry_refusal.Statement.{statement}
use Rattle.entry_targets.proofs.entry_refusal.Tie as tie

returns : tie.Need-returns-then-n-entry
returns c =
    let a = c.args in
    entry_past a.instructions.now a.entry c.if-n-entry.true

is-redirect-requires : tie.Need-is_redirect-requires
is-redirect-requires c κs = search rules

returns-2 : tie.Need-returns-then-not-is_redirect
returns-2 c =
    let a = c.args in
    entry_plain a.instructions.now a.entry c.if-n-entry.false (sym c.is_redirect.ensures ∙ c.if-not-is_redirect.true)

target-at-requires : tie.Need-target_at-requires
target-at-requires c κs = search rules

returns-3 : tie.Need-returns-then-target_at-n
returns-3 c =
    let e = c.before.before in
    let a = e.args in
    entry_followed a.instructions.now a.entry e.if-n-entry.false (sym e.is_redirect.ensures ∙ e.if-not-is_redirect.false)
    c.target_at.ensures c.if-target_at-n.true

returns-4 : tie.Need-returns-else-target_at-n
returns-4 c =
    let e = c.before.before in
    let a = e.args in
    entry_far a.instructions.now a.entry e.if-n-entry.false (sym e.is_redirect.ensures ∙ e.if-not-is_redirect.false)
    c.target_at.ensures c.if-target_at-n.false

pub entry_refusal_spec : {M : Type 1} → statement M
entry_refusal_spec =
    tie.close
    (tie.spec
    returns
    is-redirect-requires
    returns-2
    target-at-requires
    returns-3
    returns-4)
