-- `caption_run::begin::fresh_state` meets its contract: each return by the tests that lead to it.
-- Assumes nothing.
use mathlib.Core.Path.{◌∙◌}
use borrow.Author.Tests.{not-true, not-false}
use Rattle.caption_run.proofs.BeginLaws.{fresh_boundary, fresh_empty, fresh_letter}
use borrow.Author.Rules.{rules}
use Rattle.caption_run.proofs.begin.fresh_state.Statement.{statement}
use Rattle.caption_run.proofs.begin.fresh_state.Tie as tie

fresh-requires : tie.Need-fresh-requires
fresh-requires c κs = search rules

returns : tie.Need-returns-then-not-options
returns c =
    let a = c.args in
    c.fresh.ensures ∙ fresh_boundary a.word.now a.options (not-true _ c.if-not-options.true)

fresh-requires-2 : tie.Need-fresh-requires-then-word-eq0
fresh-requires-2 c κs = search rules

returns-2 : tie.Need-returns-then-word-eq0
returns-2 c =
    let a = c.args in
    c.fresh-then-word-eq0.ensures ∙ fresh_empty a.word.now a.options (not-false _ c.if-not-options.false) c.if-word-eq0.true

shared-slice-read-t8 : tie.Need-bounds-word-0
shared-slice-read-t8 c = search rules

fresh-requires-3 : tie.Need-fresh-requires-2
fresh-requires-3 c κs = search rules

returns-3 : tie.Need-returns
returns-3 c =
    let a = c.args in
    c.fresh-2.ensures ∙ fresh_letter a.word.now a.options (not-false _ c.if-not-options.false) c.if-word-eq0.false

pub fresh_state_spec : {M : Type 1} → statement M
fresh_state_spec =
    tie.close
    (tie.spec
    fresh-requires
    returns
    fresh-requires-2
    returns-2
    shared-slice-read-t8
    fresh-requires-3
    returns-3)
