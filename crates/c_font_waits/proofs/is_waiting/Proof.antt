-- `c_font_waits::is_waiting` meets its contract, by the tests.
-- Assumes nothing.
use mathlib.Core.Path.{sym, ap, ◌∙◌}
use Rattle.words.proofs.Bits.{number_word}
use Rattle.lang.specs.Checks.{absent_refusal}
use borrow.Author.Tests.{not-true, not-false}
use Rattle.c_font_waits.proofs.Waiting.{no_run, edge_refused, other_refused, by_state}
use borrow.Author.Rules.{rules}
use Rattle.c_font_waits.proofs.is_waiting.Statement.{statement}
use Rattle.c_font_waits.proofs.is_waiting.Tie as tie

is-run-requires : tie.Need-is_run-requires
is-run-requires c κs = search rules

returns : tie.Need-returns-then-not-is_run
returns c =
    let a = c.args in
    no_run a.boundary a.asked_boundary a.pairs.now a.word.now a.run.now (sym c.is_run.ensures ∙ c.if-not-is_run.true)

absent-refusal-requires : tie.Need-absent_refusal-requires
absent-refusal-requires c κs = search rules

returns-2 : tie.Need-returns-then-absent_refusal-ne0
returns-2 c =
    let a = c.args in
    edge_refused a.boundary a.asked_boundary a.pairs.now a.word.now a.run.now (sym c.is_run.ensures ∙ c.if-not-is_run.false)
    (λ z. c.if-absent_refusal-ne0.true (c.absent_refusal.ensures ∙ ap (absent_refusal 255) (number_word a.boundary c.ranges.boundary) ∙ z))

absent-refusal-requires-2 : tie.Need-absent_refusal-requires-2
absent-refusal-requires-2 c κs = search rules

returns-3 : tie.Need-returns-then-absent_refusal-ne0-2
returns-3 c =
    let a = c.args in
    other_refused a.boundary a.asked_boundary a.pairs.now a.word.now a.run.now (sym c.is_run.ensures ∙ c.if-not-is_run.false)
    (sym (c.absent_refusal.ensures ∙ ap (absent_refusal 255) (number_word a.boundary c.ranges.boundary)) ∙ c.if-absent_refusal-ne0.false)
    (λ z. c.if-absent_refusal-ne0-2.true (c.absent_refusal-2.ensures ∙ ap (absent_refusal 255) (number_word a.asked_boundary c.ranges.asked_boundary) ∙ z))

state-in-requires : tie.Need-state_in-from-requires
state-in-requires c κs = search rules

is-held-requires : tie.Need-is_held-requires
is-held-requires c κs = search rules

returns-4 : tie.Need-returns
returns-4 c =
    let a = c.args in
    by_state a.boundary a.asked_boundary a.pairs.now a.word.now a.run.now (sym c.is_run.ensures ∙ c.if-not-is_run.false)
    (sym (c.absent_refusal.ensures ∙ ap (absent_refusal 255) (number_word a.boundary c.ranges.boundary)) ∙ c.if-absent_refusal-ne0.false)
    (sym (c.absent_refusal-2.ensures ∙ ap (absent_refusal 255) (number_word a.asked_boundary c.ranges.asked_boundary)) ∙ c.if-absent_refusal-ne0-2.false)
    c.state_in-from.ensures c.is_held.ensures

pub is_waiting_spec : {M : Type 1} → statement M
is_waiting_spec =
    tie.close
    (tie.spec
    is-run-requires
    returns
    absent-refusal-requires
    returns-2
    absent-refusal-requires-2
    returns-3
    state-in-requires
    is-held-requires
    returns-4)
