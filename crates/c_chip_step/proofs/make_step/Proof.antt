-- `c_chip_step::make_step` meets its contract: out of turn, refused by its step, or shown.
-- Assumes nothing.
use mathlib.Core.Path.{◌≡◌, sym, ap, subst, ◌∙◌}
use mathlib.Core.Bool.{false}
use mathlib.Core.List.{List}
use native.Mathlib.Omega.{arith}
use lib.IntN.{ℤ}
use borrow.Author.Tests.{not-true, not-false}
use Rattle.words.proofs.Bits.{number_word}
use Rattle.captions.specs.declared.Step.{Step}
use Rattle.chips.specs.declared.Chip.{Chip}
use Rattle.chips.specs.Commands.{answer_number, chip_step}
use Rattle.c_chips.specs.ChipLists.{chip_at}
use Rattle.c_chips.proofs.Laws.{chip_long, refused_moves}
use Rattle.c_chip_write.specs.Changes.{ShowsChanges}
use Rattle.c_chip_step.specs.StepTurns.{step_turn_chip}
use Rattle.c_chip_step.proofs.Laws.{count_fits, step_moves}
use borrow.Author.Rules.{rules}
use Rattle.c_chip_step.proofs.make_step.Statement.{statement}
use Rattle.c_chip_step.proofs.make_step.Tie as tie

-- the step, for the boundary character as it was lent
module _ (c : tie.After-step_in-given) where
  abbrev pairs : List ℤ
  pairs = c.args.pairs.now

  abbrev ops : List ℤ
  ops = c.args.ops.now

  abbrev boundary : ℤ
  boundary = c.args.boundary

  abbrev chip : Chip
  chip = chip_at c.args.list.now

  given : c.step_in-given.result ≡ chip_step pairs ops boundary chip
  given =
      c.step_in-given.ensures
      ∙ ap (λ (z : ℤ). chip_step pairs ops z chip) (number_word boundary c.ranges.boundary)

is-turn-requires : tie.Need-is_turn-requires
is-turn-requires c κs = chip_long c.args.list.now c.requires.1

same_length : tie.Need-shape_of-list-then-not-is_turn
same_length c = search rules

returns : tie.Need-returns-then-not-is_turn
returns c =
    let a = c.args in
    let ns = a.list.now in
    refused_moves (step_turn_chip a.pairs.now a.ops.now a.boundary a.ends (chip_at ns)) a.block.now ns
    (rw (sym c.is_turn.ensures ∙ c.if-not-is_turn.true)) (λ z. omega (arith, z))

step-in-requires : tie.Need-step_in-given-requires
step-in-requires c κs = c.requires.1

answer-number-requires : tie.Need-answer_number-number-requires
answer-number-requires c κs = search rules

same-length-2 : tie.Need-shape_of-list-then-number-ne0
same-length-2 c = search rules

returns-2 : tie.Need-returns-then-number-ne0
returns-2 c =
    let a = c.args in
    let t = sym c.is_turn.ensures ∙ c.if-not-is_turn.false in
    refused_moves (step_turn_chip a.pairs.now a.ops.now a.boundary a.ends (chip (c.before.before))) a.block.now a.list.now
    (rw t (c.answer_number-number.ensures ∙ ap (λ (y : Step). answer_number y.answer) (given (c.before.before)))) c.if-number-ne0.true

count-word-requires : tie.Need-count_word-requires
count-word-requires c κs =
    count_fits c.args.list.now c.requires.1 c.requires.2

show-changes-requires : tie.Need-show_changes-requires
show-changes-requires c κs = search rules

same-length-3 : tie.Need-shape_of-block
same-length-3 c = search rules

same-length-4 : tie.Need-shape_of-list
same-length-4 c = search rules

returns-3 : tie.Need-returns
returns-3 c =
    let a = c.args in
    let t = sym c.is_turn.ensures ∙ c.if-not-is_turn.false in
    step_moves a.list.now c.requires.1 c.requires.2 a.pairs.now a.ops.now a.boundary a.ends a.block.now c.requires.0 t
    (sym (c.answer_number-number.ensures ∙ ap (λ (y : Step). answer_number y.answer) (given (c.before.before.before.before.before.before.before.before.before.before.before.before.before.before))) ∙ c.if-number-ne0.false) c.count_word.ensures
    (subst (λ (y : Step). ShowsChanges false y.answer y.state a.block.now c.count_word.new.list c.show_changes.new.block c.show_changes.new.list) (given (c.before.before.before.before.before.before.before.before.before.before.before.before.before.before))
    c.show_changes.ensures)

pub make_step_spec : {M : Type 1} → statement M
make_step_spec =
    tie.close
    (tie.spec
    is-turn-requires
    same_length
    returns
    step-in-requires
    answer-number-requires
    same-length-2
    returns-2
    count-word-requires
    show-changes-requires
    same-length-3
    same-length-4
    returns-3)
