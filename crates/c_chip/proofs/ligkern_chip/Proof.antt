-- `c_chip::ligkern_chip` meets its contract: begin, or another command.
-- Assumes nothing.
use mathlib.Core.Path.{sym, subst, ◌∙◌}
use lib.IntN.{ℤ}
use lib.ListN.{length}
use Rattle.words.proofs.Bits.{number_word}
use Rattle.lang.specs.Checks.{or_else}
use Rattle.captions.specs.Form.{table_refusal}
use Rattle.chips.specs.Blocks.{block_caller}
use Rattle.chips.specs.Commands.{may_begin, caller_refusal, in_turn, chip_begun, chip_after}
use Rattle.c_chips.specs.ChipLists.{chip_read, after_early, MovesChip}
use Rattle.c_chip_turn.specs.ListTurns.{other_refusal}
use Rattle.c_chip.proofs.Laws.{begin_told, turn_told}
use borrow.Author.Rules.{rules}
use Rattle.c_chip.proofs.ligkern_chip.Statement.{statement}
use Rattle.c_chip.proofs.ligkern_chip.Tie as tie

item-at-requires : tie.Need-item_at-requires
item-at-requires c κs = search rules

begin-in-requires : tie.Need-begin_in-requires
begin-in-requires c κs = search rules

same_length : tie.Need-shape_of-block-then-item_at-eq1
same_length c = search rules

same-length-2 : tie.Need-shape_of-chip-then-item_at-eq1
same-length-2 c = search rules

returns : tie.Need-returns-then-item_at-eq1
returns c =
    let a = c.args in
    let block = a.block.now in
    let ns = a.chip.now in
    begin_told a.pairs.now a.ops.now a.boundary block ns (sym c.item_at.ensures ∙ c.if-item_at-eq1.true)
    (subst (λ (z : ℤ). MovesChip (after_early z (chip_read ns) (length block)
    (or_else (table_refusal a.pairs.now a.ops.now) (in_turn (may_begin (block_caller block) (chip_read ns)) (caller_refusal (block_caller block)))))
    (chip_begun (block_caller block) (chip_read ns)) block ns c.begin_in.result c.begin_in.new.block c.begin_in.new.list)
    (number_word a.boundary c.ranges.boundary) c.begin_in.ensures)

turn-in-requires : tie.Need-turn_in-requires
turn-in-requires c κs = search rules

same-length-3 : tie.Need-shape_of-block
same-length-3 c = search rules

same-length-4 : tie.Need-shape_of-chip
same-length-4 c = search rules

returns-2 : tie.Need-returns
returns-2 c =
    let a = c.args in
    let block = a.block.now in
    let ns = a.chip.now in
    turn_told a.pairs.now a.ops.now a.boundary block ns (λ e. c.if-item_at-eq1.false (c.item_at.ensures ∙ e))
    (subst (λ (z : ℤ). MovesChip (after_early z (chip_read ns) (length block) (other_refusal a.pairs.now a.ops.now z block (chip_read ns)))
    (chip_after a.pairs.now a.ops.now z block (chip_read ns)) block ns c.turn_in.result c.turn_in.new.block
    c.turn_in.new.list)
    (number_word a.boundary c.ranges.boundary) c.turn_in.ensures)

pub ligkern_chip_spec : {M : Type 1} → statement M
ligkern_chip_spec =
    tie.close
    (tie.spec
    item-at-requires
    begin-in-requires
    same_length
    same-length-2
    returns
    turn-in-requires
    same-length-3
    same-length-4
    returns-2)
