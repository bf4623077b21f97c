-- `chip_turn::show_step` meets its contract: by whether the step was refused.
-- Assumes nothing.
use mathlib.Core.Path.{sym, ◌∙◌}
use Rattle.chips.specs.Commands.{chip_stepped}
use Rattle.chip_begin.proofs.Laws.{refused_by, taken_by}
use borrow.Author.Rules.{rules}
use Rattle.chip_turn.proofs.show_step.Statement.{statement}
use Rattle.chip_turn.proofs.show_step.Tie as tie

answer-number-requires : tie.Need-answer_number-number-requires
answer-number-requires c κs = search rules

returns : tie.Need-returns-then-number-ne0
returns c =
    let a = c.args in
    refused_by (chip_stepped a.counts a.given a.chip) a.chip c.answer_number-number.ensures c.if-number-ne0.true

returns-2 : tie.Need-returns
returns-2 c =
    let a = c.args in
    taken_by (chip_stepped a.counts a.given a.chip) a.chip (sym c.answer_number-number.ensures ∙ c.if-number-ne0.false)

pub show_step_spec : {M : Type 1} → statement M
show_step_spec =
    tie.close
    (tie.spec
    answer-number-requires
    returns
    returns-2)
