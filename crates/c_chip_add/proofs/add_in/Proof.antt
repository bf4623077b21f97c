-- `c_chip_add::add_in` meets its contract: refused before the command is looked at, or add.
-- Assumes nothing.
use mathlib.Core.Path.{◌≡◌, sym, ap, ◌∙◌}
use mathlib.Core.List.{List}
use Prim.Native.Nat.{ℕ}
use lib.IntN.{ℤ}
use lib.ListN.{length, get_or}
use Rattle.words.proofs.Bits.{number_word}
use Rattle.chips.specs.declared.Chip.{Chip}
use Rattle.chips.specs.Commands.{may_add, in_turn, chip_added}
use Rattle.c_chips.specs.ChipLists.{chip_read, after_early}
use Rattle.c_chips.proofs.Laws.{Stood, stood, early_moves, late_moves}
use borrow.Author.Rules.{rules}
use Rattle.c_chip_add.proofs.add_in.Statement.{statement}
use Rattle.c_chip_add.proofs.add_in.Tie as tie

-- what is refused before, for the boundary character as it was lent
module _ (c : tie.After-list_refusal-refusal) where
  abbrev boundary : ℤ
  boundary = c.args.boundary

  abbrev block : List ℕ
  block = c.args.block.now

  abbrev ns : List ℕ
  ns = c.args.list.now

  early : c.list_refusal-refusal.result ≡ after_early boundary (chip_read ns) (length block) 0
  early =
      c.list_refusal-refusal.ensures
      ∙ ap (λ (z : ℤ). after_early z (chip_read ns) (length block) 0) (number_word boundary c.ranges.boundary)

  has-stood : c.list_refusal-refusal.result ≡ 0 → Stood boundary ns (length block)
  has-stood z = stood boundary ns (length block) (sym early ∙ z)

list-refusal-requires : tie.Need-list_refusal-refusal-requires
list-refusal-requires c κs = search rules

same_length : tie.Need-shape_of-list-then-refusal-ne0
same_length c = search rules

returns : tie.Need-returns-then-refusal-ne0
returns c =
    let x = chip_read (ns (c.before)) in
    early_moves (boundary (c.before)) (ns (c.before)) (block (c.before)) (in_turn (may_add x) 0) (chip_added (get_or (block (c.before)) 1 0) x) (early (c.before)) c.if-refusal-ne0.true

add-letter-requires : tie.Need-add_letter-requires
add-letter-requires c κs = let t = has-stood c.before.before.before c.if-refusal-ne0.false in (t.long, t.is_chip_lem, t.legal)

same-length-2 : tie.Need-shape_of-block
same-length-2 c = search rules

same-length-3 : tie.Need-shape_of-list
same-length-3 c = search rules

returns-2 : tie.Need-returns
returns-2 c =
    late_moves (boundary (c.before.before.before.before.before.before.before.before)) (ns (c.before.before.before.before.before.before.before.before)) (block (c.before.before.before.before.before.before.before.before)) (λ (x : Chip). in_turn (may_add x) 0) (λ (x : Chip). chip_added (get_or (block (c.before.before.before.before.before.before.before.before)) 1 0) x)
    (has-stood (c.before.before.before.before.before.before.before.before) c.if-refusal-ne0.false) c.add_letter.ensures

pub add_in_spec : {M : Type 1} → statement M
add_in_spec =
    tie.close
    (tie.spec
    list-refusal-requires
    same_length
    returns
    add-letter-requires
    same-length-2
    same-length-3
    returns-2)
