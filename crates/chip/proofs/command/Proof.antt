-- `chip::command` meets its contract: what was commanded is refused, or taken and shown.
-- Assumes nothing.
use mathlib.Core.Path.{◌≡◌, ap, ◌∙◌}
use mathlib.Core.List.{[], ◌∷◌}
use Prim.Native.Nat.{ℕ}
use lib.ListN.{length}
use Rattle.words.proofs.Bits.{number_word}
use Rattle.chips.specs.Commands.{command_of}
use Rattle.chip_block.specs.Showing.{chip_showing, shown_where}
use Rattle.chip_turn.specs.Turns.{commanded_of}
use Rattle.chip.proofs.Laws.{refused_told, taken_told}
use borrow.Author.Rules.{rules}
use Rattle.chip.proofs.command.Statement.{statement}
use Rattle.chip.proofs.command.Tie as tie

-- what was commanded, of the first bytes of the block, and of the boundary character as it was lent
done : (c : tie.After-commanded-done) → let a = c.args in
    c.commanded-done.result ≡ command_of a.pairs.now a.ops.now a.boundary a.block.now a.chip
done c =
    let a = c.args in
    c.commanded-done.ensures
    ∙ (λ j. commanded_of a.pairs.now a.ops.now (number_word a.boundary c.ranges.boundary j) (length a.block.now)
    (c.item_at.ensures j ∷ c.item_at-letter.ensures j ∷ []) a.chip)

item-at-requires : tie.Need-item_at-letter-requires
item-at-requires c κs = search rules

item-at-requires-2 : tie.Need-item_at-requires
item-at-requires-2 c κs = search rules

commanded-requires : tie.Need-commanded-done-requires
commanded-requires c κs = search rules

same_length : tie.Need-shape_of-block-then-done-ne0
same_length c = search rules

returns : tie.Need-returns-then-done-ne0
returns c =
    let a = c.args in
    refused_told a.pairs.now a.ops.now a.boundary a.block.now a.chip (done (c.before.before)) c.if-done-ne0.true

cast-caller : tie.Need-overflow_cast-caller
cast-caller c = search rules

count-of-requires : tie.Need-count_of-requires
count-of-requires c κs = search rules

show-requires : tie.Need-show-requires
show-requires c κs = search rules

same-length-2 : tie.Need-shape_of-block
same-length-2 c = search rules

returns-2 : tie.Need-returns
returns-2 c =
    let a = c.args in
    let x = c.commanded-done.result.chip in
    taken_told a.pairs.now a.ops.now a.boundary a.block.now a.chip (done (c.before.before.before.before.before.before.before.before.before)) c.if-done-ne0.false
    (c.show.ensures ∙ ap (λ (m : ℕ). shown_where a.block.now (chip_showing x.opened m x.item)) c.count_of.ensures)

pub command_spec : {M : Type 1} → statement M
command_spec =
    tie.close
    (tie.spec
    item-at-requires
    item-at-requires-2
    commanded-requires
    same_length
    returns
    cast-caller
    count-of-requires
    show-requires
    same-length-2
    returns-2)
