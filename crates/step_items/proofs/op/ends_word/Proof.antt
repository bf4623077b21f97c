-- `step_items::op::ends_word` meets its contract, by its tests.
-- Assumes nothing.
use mathlib.Core.Path.{◌∙◌, sym}
use native.Mathlib.Omega.{arith}
use borrow.Author.Tests.{not-true, not-false}
use Rattle.step_items.proofs.Laws.{ends_later, ends_here, ends_many, ends_kern}
use borrow.Author.Rules.{rules}
use Rattle.step_items.proofs.op.ends_word.Statement.{statement}
use Rattle.step_items.proofs.op.ends_word.Tie as tie

is-none-requires : tie.Need-is_none-requires
is-none-requires c κs = search rules

returns : tie.Need-returns-then-not-is_none
returns c =
    let a = c.args in
    sym (ends_later a.ops.now a.s (sym c.is_none.ensures ∙ c.if-not-is_none.true))

returns-2 : tie.Need-returns-then-s-eq0
returns-2 c =
    let a = c.args in
    sym (ends_here a.ops.now a.s (sym c.is_none.ensures ∙ c.if-not-is_none.false) c.if-s-eq0.true)

returns-3 : tie.Need-returns-then-s-ne1
returns-3 c =
    let a = c.args in
    sym (ends_many a.ops.now a.s (sym c.is_none.ensures ∙ c.if-not-is_none.false)
    c.if-s-eq0.false (λ e. omega (arith, e)))

kind-at-requires : tie.Need-kind_at-requires
kind-at-requires c κs = search rules

returns-4 : tie.Need-returns
returns-4 c =
    let a = c.args in
    rw c.kind_at.ensures.is
    (sym (ends_kern a.ops.now a.s (sym c.is_none.ensures ∙ c.if-not-is_none.false)
    c.if-s-eq0.false (omega arith)))

pub ends_word_spec : {M : Type 1} → statement M
ends_word_spec =
    tie.close
    (tie.spec
    is-none-requires
    returns
    returns-2
    returns-3
    kind-at-requires
    returns-4)
