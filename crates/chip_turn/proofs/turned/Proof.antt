-- `chip_turn::turned` meets its contract: by the command.
-- Assumes nothing.
use mathlib.Core.Path.{ap, ◌∙◌}
use mathlib.Core.List.{[]}
use Prim.Native.Nat.{ℕ}
use lib.IntN.{ℤ}
use borrow.Author.Tests.{ne_eqb}
use Rattle.words.proofs.Bits.{number_word}
use Rattle.lang.specs.Checks.{or_else}
use Rattle.captions.specs.Begin.{begin_refusal, plain_options}
use Rattle.chips.specs.declared.Chip.{Chip}
use Rattle.chips.specs.declared.Commanded.{Commanded}
use Rattle.chips.specs.Blocks.{item_ready}
use Rattle.chips.specs.Commands.{may_begin, caller_refusal, in_turn, chip_begun, counted_word, commanded_by}
use Rattle.chip_begin.proofs.Laws.{none_refusal}
use Rattle.chip_turn.proofs.Laws.{turn_at}
use borrow.Author.Rules.{rules}
use Rattle.chip_turn.proofs.turned.Statement.{statement}
use Rattle.chip_turn.proofs.turned.Tie as tie

-- begin, by what it refuses of the boundary character and the table
abbrev begun_by : ℕ → ℕ → Chip → Commanded
begun_by n caller chip = commanded_by (or_else n (in_turn (may_begin caller chip) (caller_refusal caller))) (chip_begun caller chip) chip

begin-word-requires : tie.Need-begin_word-requires
begin-word-requires c κs = search rules

add-letter-requires : tie.Need-add_letter-requires
add-letter-requires c κs = search rules

end-word-requires : tie.Need-end_word-requires
end-word-requires c κs = search rules

take-item-requires : tie.Need-take_item-requires
take-item-requires c κs = search rules

returns : tie.Need-returns-in-1
returns c =
    let a = c.args in
    c.begin_word.ensures
    ∙ ap (λ (z : ℤ). begun_by (begin_refusal a.pairs.now a.ops.now z [] plain_options) a.letter a.chip)
    (number_word a.boundary c.ranges.boundary)
    ∙ ap (λ (n : ℕ). begun_by n a.letter a.chip) (none_refusal a.pairs.now a.ops.now a.boundary c.requires.0)
    ∙ rw c.in-1.is

returns-2 : tie.Need-returns-in-2
returns-2 c = c.add_letter.ensures ∙ rw c.in-2.is

returns-3 : tie.Need-returns-in-3
returns-3 c =
    let a = c.args in
    c.end_word.ensures
    ∙ ap (turn_at a.pairs.now a.ops.now a.chip a.chip.opened (counted_word a.chip)) (number_word a.boundary c.ranges.boundary)
    ∙ rw c.in-3.is

returns-4 : tie.Need-returns-in-4
returns-4 c =
    let a = c.args in
    c.take_item.ensures
    ∙ ap (turn_at a.pairs.now a.ops.now a.chip (item_ready a.chip) a.chip.counts) (number_word a.boundary c.ranges.boundary)
    ∙ rw c.in-4.is

returns-5 : tie.Need-returns-in_default
returns-5 c =
    let x = c.args.command in
    let n = c.in_default.in_default-own.rest in
    rw (ne_eqb x 1 n.0.0.0.1, ne_eqb x 2 n.0.0.1, ne_eqb x 3 n.0.1, ne_eqb x 4 n.1)

pub turned_spec : {M : Type 1} → statement M
turned_spec =
    tie.close
    (tie.spec
    begin-word-requires
    add-letter-requires
    end-word-requires
    take-item-requires
    returns
    returns-2
    returns-3
    returns-4
    returns-5)
