-- `c_chip_turn::turn_in` meets its contract: by the command, or refused.
-- Assumes nothing.
use mathlib.Core.Path.{◌≡◌, sym, ap, subst, ◌∙◌}
use mathlib.Core.Bool.{Bool, true, false}
use mathlib.Core.List.{List, [], ◌∷◌}
use Prim.Native.Nat.{ℕ}
use native.Mathlib.Omega.{arith}
use lib.IntN.{ℤ}
use lib.ListN.{length}
use Rattle.words.specs.Words.{word_of, number_of}
use Rattle.words.proofs.Bits.{number_word}
use Rattle.lang.proofs.Arms.{NoneOf}
use Rattle.chips.specs.declared.Chip.{Chip}
use Rattle.chips.specs.Blocks.{block_command, block_letter}
use Rattle.chips.specs.Commands.{may_add, in_turn, chip_added, chip_after}
use Rattle.c_chips.specs.ChipLists.{chip_read, after_early, MovesChip}
use Rattle.c_chips.proofs.Laws.{stood, after_is, refused_moves, early_moves}
use Rattle.c_chip_step.specs.StepTurns.{step_turn_number, step_turn_chip}
use Rattle.c_chip_turn.specs.ListTurns.{other_refusal}
use Rattle.c_chip_turn.proofs.Laws.{adds, ends, takes, none_does}
use borrow.Author.Rules.{rules}
use Rattle.c_chip_turn.proofs.turn_in.Statement.{statement}
use Rattle.c_chip_turn.proofs.turn_in.Tie as tie

-- what is lent, and what each call leaves, by the boundary character
module _ (c : tie.After-item_at) where
  abbrev pairs : List ℤ
  pairs = c.args.pairs.now

  abbrev ops : List ℤ
  ops = c.args.ops.now

  abbrev boundary : ℤ
  boundary = c.args.boundary

  abbrev block : List ℕ
  block = c.args.block.now

  abbrev ns : List ℕ
  ns = c.args.list.now

  abbrev chip : Chip
  chip = chip_read ns

  lent : number_of (word_of boundary) ≡ boundary
  lent = number_word boundary c.ranges.boundary

  abbrev AddLeaves : ℤ → ℕ → List ℕ → List ℕ → Type 0
  AddLeaves z r block' ns' =
      MovesChip (after_early z chip (length block) (in_turn (may_add chip) 0)) (chip_added (block_letter block) chip) block ns r block' ns'

  abbrev StepLeaves : Bool → ℤ → ℕ → List ℕ → List ℕ → Type 0
  StepLeaves ends z r block' ns' =
      MovesChip (after_early z chip (length block) (step_turn_number pairs ops z ends chip)) (step_turn_chip pairs ops z ends chip) block ns r block' ns'

  -- another command is refused before it is looked at, or 21
  abbrev number : ℕ
  number = other_refusal pairs ops boundary block chip

  abbrev after : Chip
  after = chip_after pairs ops boundary block chip

  abbrev early : ℤ → ℕ
  early z = after_early z chip (length block) 0

  refused : {r : ℕ} → r ≡ early (number_of (word_of boundary)) → (r ≡ 0 → ⊥) →
      MovesChip (after_early boundary chip (length block) number) after block ns r block ns
  refused e h = early_moves boundary ns block number after (e ∙ ap early lent) h

  none : {r : ℕ} → r ≡ early (number_of (word_of boundary)) → r ≡ 0 → NoneOf (Unit {0}) c.item_at.result (2 ∷ 3 ∷ 4 ∷ []) →
      MovesChip (after_early boundary chip (length block) number) after block ns 21 block ns
  none e z n =
      let t = stood boundary ns (length block) (sym (e ∙ ap early lent) ∙ z) in
      let m : NoneOf (Unit {0}) (block_command block) (2 ∷ 3 ∷ 4 ∷ []) =
      subst (λ (v : ℕ). NoneOf (Unit {0}) v (2 ∷ 3 ∷ 4 ∷ [])) c.item_at.ensures n in
      refused_moves after block ns
      (sym (after_is boundary ns (length block) number t ∙ none_does pairs ops boundary block chip m)) (λ q. omega (arith, q))

item-at-requires : tie.Need-item_at-requires
item-at-requires c κs = search rules

add-in-requires : tie.Need-add_in-requires
add-in-requires c κs = search rules

step-turn-requires : tie.Need-step_turn-requires
step-turn-requires c κs = search rules

step-turn-requires-2 : tie.Need-step_turn-requires-in-4
step-turn-requires-2 c κs = search rules

list-refusal-requires : tie.Need-list_refusal-refusal-requires
list-refusal-requires c κs = search rules

same_length : tie.Need-shape_of-block-then-refusal-ne0
same_length c = search rules

same-length-2 : tie.Need-shape_of-list-then-refusal-ne0
same-length-2 c = search rules

returns : tie.Need-returns-then-refusal-ne0
returns c =
    refused (c.before.before.before) c.list_refusal-refusal.ensures c.if-refusal-ne0.true

same-length-3 : tie.Need-shape_of-block-in-2
same-length-3 c = search rules

same-length-4 : tie.Need-shape_of-list-in-2
same-length-4 c = search rules

returns-2 : tie.Need-returns-in-2
returns-2 c =
    adds (pairs (c.before.before.before.before.before.before.before.before)) (ops (c.before.before.before.before.before.before.before.before)) (boundary (c.before.before.before.before.before.before.before.before)) (block (c.before.before.before.before.before.before.before.before)) (chip (c.before.before.before.before.before.before.before.before)) (sym c.item_at.ensures ∙ c.in-2.is)
    (subst (λ (z : ℤ). AddLeaves (c.before.before.before.before.before.before.before.before) z c.add_in.result c.add_in.new.block c.add_in.new.list) (lent (c.before.before.before.before.before.before.before.before)) c.add_in.ensures)

same-length-5 : tie.Need-shape_of-block-in-3
same-length-5 c = search rules

same-length-6 : tie.Need-shape_of-list-in-3
same-length-6 c = search rules

returns-3 : tie.Need-returns-in-3
returns-3 c =
    ends (pairs (c.before.before.before.before.before.before.before.before)) (ops (c.before.before.before.before.before.before.before.before)) (boundary (c.before.before.before.before.before.before.before.before)) (block (c.before.before.before.before.before.before.before.before)) (chip (c.before.before.before.before.before.before.before.before)) (sym c.item_at.ensures ∙ c.in-3.is)
    (subst (λ (z : ℤ). StepLeaves (c.before.before.before.before.before.before.before.before) true z c.step_turn.result c.step_turn.new.block c.step_turn.new.list) (lent (c.before.before.before.before.before.before.before.before)) c.step_turn.ensures)

same-length-7 : tie.Need-shape_of-block-in-4
same-length-7 c = search rules

same-length-8 : tie.Need-shape_of-list-in-4
same-length-8 c = search rules

returns-4 : tie.Need-returns-in-4
returns-4 c =
    takes (pairs (c.before.before.before.before.before.before.before.before)) (ops (c.before.before.before.before.before.before.before.before)) (boundary (c.before.before.before.before.before.before.before.before)) (block (c.before.before.before.before.before.before.before.before)) (chip (c.before.before.before.before.before.before.before.before)) (sym c.item_at.ensures ∙ c.in-4.is)
    (subst (λ (z : ℤ). StepLeaves (c.before.before.before.before.before.before.before.before) false z c.step_turn-in-4.result c.step_turn-in-4.new.block c.step_turn-in-4.new.list) (lent (c.before.before.before.before.before.before.before.before)) c.step_turn-in-4.ensures)

same-length-9 : tie.Need-shape_of-block-else-refusal-ne0
same-length-9 c = search rules

same-length-10 : tie.Need-shape_of-list-else-refusal-ne0
same-length-10 c = search rules

returns-5 : tie.Need-returns-else-refusal-ne0
returns-5 c =
    none (c.before.before.before) c.list_refusal-refusal.ensures c.if-refusal-ne0.false c.in_default.in_default-own.rest

pub turn_in_spec : {M : Type 1} → statement M
turn_in_spec =
    tie.close
    (tie.spec
    item-at-requires
    add-in-requires
    step-turn-requires
    step-turn-requires-2
    list-refusal-requires
    same_length
    same-length-2
    returns
    same-length-3
    same-length-4
    returns-2
    same-length-5
    same-length-6
    returns-3
    same-length-7
    same-length-8
    returns-4
    same-length-9
    same-length-10
    returns-5)
