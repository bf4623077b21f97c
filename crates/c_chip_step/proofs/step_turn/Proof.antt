-- `c_chip_step::step_turn` meets its contract: refused before the command is looked at, or a step.
-- Assumes nothing.
use mathlib.Core.Path.{◌≡◌, sym, ap, subst, ◌∙◌}
use mathlib.Core.Bool.{Bool}
use mathlib.Core.List.{List}
use Prim.Native.Nat.{ℕ}
use lib.IntN.{ℤ}
use lib.ListN.{length}
use Rattle.words.proofs.Bits.{number_word}
use Rattle.chips.specs.declared.Chip.{Chip}
use Rattle.c_chips.specs.ChipLists.{chip_at, chip_read, after_early, MovesChip}
use Rattle.c_chips.proofs.Laws.{Stood, stood, early_moves, late_moves}
use Rattle.c_chip_step.specs.StepTurns.{step_turn_number, step_turn_chip}
use borrow.Author.Rules.{rules}
use Rattle.c_chip_step.proofs.step_turn.Statement.{statement}
use Rattle.c_chip_step.proofs.step_turn.Tie as tie

-- what is refused before, for the boundary character as it was lent
module _ (c : tie.After-list_refusal-refusal) where
  abbrev boundary : ℤ
  boundary = c.args.boundary

  abbrev block : List ℕ
  block = c.args.block.now

  abbrev ns : List ℕ
  ns = c.args.list.now

  abbrev pairs : List ℤ
  pairs = c.args.pairs.now

  abbrev ops : List ℤ
  ops = c.args.ops.now

  abbrev ends : Bool
  ends = c.args.ends

  -- the number and the chip after the command, by the boundary character
  abbrev number : ℤ → Chip → ℕ
  number z x = step_turn_number pairs ops z ends x

  abbrev after : ℤ → Chip → Chip
  after z x = step_turn_chip pairs ops z ends x

  early : c.list_refusal-refusal.result ≡ after_early boundary (chip_read ns) (length block) 0
  early =
      c.list_refusal-refusal.ensures
      ∙ ap (λ (z : ℤ). after_early z (chip_read ns) (length block) 0) (number_word boundary c.ranges.boundary)

  has-stood : c.list_refusal-refusal.result ≡ 0 → Stood boundary ns (length block)
  has-stood z = stood boundary ns (length block) (sym early ∙ z)

list-refusal-requires : tie.Need-list_refusal-refusal-requires
list-refusal-requires c κs = search rules

same_length : tie.Need-shape_of-list-then-refusal-ne0
same_length c = search rules

returns : tie.Need-returns-then-refusal-ne0
returns c =
    let x = chip_read (ns (c.before)) in
    early_moves (boundary (c.before)) (ns (c.before)) (block (c.before)) (number (c.before) (boundary (c.before)) x) (after (c.before) (boundary (c.before)) x) (early (c.before)) c.if-refusal-ne0.true

make-step-requires : tie.Need-make_step-requires
make-step-requires c κs = let t = has-stood c.before.before.before c.if-refusal-ne0.false in (t.long, t.is_chip_lem, t.legal)

same-length-2 : tie.Need-shape_of-block
same-length-2 c = search rules

same-length-3 : tie.Need-shape_of-list
same-length-3 c = search rules

returns-2 : tie.Need-returns
returns-2 c =
    late_moves (boundary (c.before.before.before.before.before.before.before.before)) (ns (c.before.before.before.before.before.before.before.before)) (block (c.before.before.before.before.before.before.before.before)) (number (c.before.before.before.before.before.before.before.before) (boundary (c.before.before.before.before.before.before.before.before))) (after (c.before.before.before.before.before.before.before.before) (boundary (c.before.before.before.before.before.before.before.before))) (has-stood (c.before.before.before.before.before.before.before.before) c.if-refusal-ne0.false)
    (subst (λ (z : ℤ). MovesChip (number (c.before.before.before.before.before.before.before.before) z (chip_at (ns (c.before.before.before.before.before.before.before.before)))) (after (c.before.before.before.before.before.before.before.before) z (chip_at (ns (c.before.before.before.before.before.before.before.before)))) (block (c.before.before.before.before.before.before.before.before)) (ns (c.before.before.before.before.before.before.before.before)) c.make_step.result c.make_step.new.block
    c.make_step.new.list) (number_word (boundary (c.before.before.before.before.before.before.before.before)) c.ranges.boundary) c.make_step.ensures)

pub step_turn_spec : {M : Type 1} → statement M
step_turn_spec =
    tie.close
    (tie.spec
    list-refusal-requires
    same_length
    returns
    make-step-requires
    same-length-2
    same-length-3
    returns-2)
