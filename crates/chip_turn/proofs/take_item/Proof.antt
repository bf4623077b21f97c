-- `chip_turn::take_item` meets its contract: an item is ready, and one step is made; or none is.
-- Assumes nothing.
use mathlib.Core.Path.{sym, ap, ◌∙◌}
use Rattle.words.proofs.Bits.{number_word}
use Rattle.chips.specs.Commands.{chip_step}
use Rattle.chips.proofs.Turns.{few_letters}
use Rattle.chip_begin.proofs.Laws.{in_turn_lem, out_of_turn}
use Rattle.chip_turn.proofs.Laws.{stepped_by}
use borrow.Author.Rules.{rules}
use Rattle.chip_turn.proofs.take_item.Statement.{statement}
use Rattle.chip_turn.proofs.take_item.Tie as tie

is-ready-requires : tie.Need-is_ready-requires
is-ready-requires c κs = search rules

chip-step-requires : tie.Need-chip_step-given-requires
chip-step-requires c κs = few_letters c.args.chip c.requires

show-step-requires : tie.Need-show_step-requires
show-step-requires c κs = search rules

returns : tie.Need-returns-then-is_ready
returns c =
    let a = c.args in
    c.show_step.ensures
    ∙ ap (stepped_by a.chip a.chip.counts) c.chip_step-given.ensures
    ∙ (λ j. stepped_by a.chip a.chip.counts (chip_step a.pairs.now a.ops.now (number_word a.boundary c.ranges.boundary j) a.chip))
    ∙ in_turn_lem _ _ a.chip (sym c.is_ready.ensures ∙ c.if-is_ready.true)

returns-2 : tie.Need-returns
returns-2 c = out_of_turn _ _ c.args.chip (sym c.is_ready.ensures ∙ c.if-is_ready.false)

pub take_item_spec : {M : Type 1} → statement M
take_item_spec =
    tie.close
    (tie.spec
    is-ready-requires
    chip-step-requires
    show-step-requires
    returns
    returns-2)
