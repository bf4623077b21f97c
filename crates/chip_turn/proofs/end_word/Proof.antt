-- `chip_turn::end_word` meets its contract: a word is open, and one step is made; or none is.
-- Assumes nothing.
use mathlib.Core.Path.{◌∙◌}
use Rattle.words.proofs.Bits.{number_word}
use Rattle.chips.specs.Commands.{chip_step, counted_word}
use Rattle.chips.proofs.Turns.{few_letters}
use Rattle.chip_begin.proofs.Laws.{in_turn_lem, out_of_turn}
use Rattle.chip_turn.proofs.Laws.{stepped_by}
use borrow.Author.Rules.{rules}
use Rattle.chip_turn.proofs.end_word.Statement.{statement}
use Rattle.chip_turn.proofs.end_word.Tie as tie

chip-step-requires : tie.Need-chip_step-given-requires
chip-step-requires c κs = few_letters c.args.chip c.requires

counted-word-requires : tie.Need-counted_word-requires
counted-word-requires c κs = search rules

show-step-requires : tie.Need-show_step-requires
show-step-requires c κs = search rules

returns : tie.Need-returns-then-chip
returns c =
    let a = c.args in
    c.show_step.ensures
    ∙ (λ j. stepped_by a.chip (c.counted_word.ensures j) (c.chip_step-given.ensures j))
    ∙ (λ j. stepped_by a.chip (counted_word a.chip) (chip_step a.pairs.now a.ops.now (number_word a.boundary c.ranges.boundary j) a.chip))
    ∙ in_turn_lem _ _ a.chip c.if-chip.true

returns-2 : tie.Need-returns
returns-2 c = out_of_turn _ _ c.args.chip c.if-chip.false

pub end_word_spec : {M : Type 1} → statement M
end_word_spec =
    tie.close
    (tie.spec
    chip-step-requires
    counted-word-requires
    show-step-requires
    returns
    returns-2)
