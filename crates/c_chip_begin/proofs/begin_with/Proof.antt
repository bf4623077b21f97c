-- `c_chip_begin::begin_with` meets its contract: refused before it is looked at, or begin.
-- Assumes nothing.
use mathlib.Core.Path.{◌≡◌, sym, ap, ◌∙◌}
use mathlib.Core.List.{List}
use Prim.Native.Nat.{ℕ}
use lib.IntN.{ℤ}
use lib.ListN.{length, get_or}
use Rattle.words.proofs.Bits.{number_word}
use Rattle.chips.specs.declared.Chip.{Chip}
use Rattle.chips.specs.Commands.{may_begin, caller_refusal, in_turn, chip_begun}
use Rattle.c_chips.specs.ChipLists.{chip_read, after_early}
use Rattle.c_chips.proofs.Laws.{Stood, stood, early_moves, late_moves}
use borrow.Author.Rules.{rules}
use Rattle.c_chip_begin.proofs.begin_with.Statement.{statement}
use Rattle.c_chip_begin.proofs.begin_with.Tie as tie

-- what is refused before, for the boundary character as it was lent; and begin's number and chip
module _ (c : tie.After-list_refusal-refusal) where
  abbrev boundary : ℤ
  boundary = c.args.boundary

  abbrev block : List ℕ
  block = c.args.block.now

  abbrev ns : List ℕ
  ns = c.args.list.now

  abbrev number : Chip → ℕ
  number x = in_turn (may_begin (get_or block 1 0) x) (caller_refusal (get_or block 1 0))

  abbrev after : Chip → Chip
  after x = chip_begun (get_or block 1 0) x

  early : c.list_refusal-refusal.result ≡ after_early boundary (chip_read ns) (length block) 0
  early =
      c.list_refusal-refusal.ensures
      ∙ ap (λ (z : ℤ). after_early z (chip_read ns) (length block) 0) (number_word boundary c.ranges.boundary)

  has-stood : c.list_refusal-refusal.result ≡ 0 → Stood boundary ns (length block)
  has-stood z = stood boundary ns (length block) (sym early ∙ z)

list-refusal-requires : tie.Need-list_refusal-refusal-requires
list-refusal-requires c κs = search rules

same_length : tie.Need-shape_of-list-then-refusal-ne0
same_length c = search rules

returns : tie.Need-returns-then-refusal-ne0
returns c =
    let x = chip_read (ns (c.before)) in
    early_moves (boundary (c.before)) (ns (c.before)) (block (c.before)) (number (c.before) x) (after (c.before) x) (early (c.before)) c.if-refusal-ne0.true

open-word-requires : tie.Need-open_word-requires
open-word-requires c κs =
    let t = has-stood (c.before.before.before) c.if-refusal-ne0.false in
    (t.long, t.is_chip_lem, t.legal, c.requires)

same-length-2 : tie.Need-shape_of-block
same-length-2 c = search rules

same-length-3 : tie.Need-shape_of-list
same-length-3 c = search rules

returns-2 : tie.Need-returns
returns-2 c =
    late_moves (boundary (c.before.before.before.before.before.before.before.before)) (ns (c.before.before.before.before.before.before.before.before)) (block (c.before.before.before.before.before.before.before.before)) (number (c.before.before.before.before.before.before.before.before)) (after (c.before.before.before.before.before.before.before.before)) (has-stood (c.before.before.before.before.before.before.before.before) c.if-refusal-ne0.false) c.open_word.ensures

pub begin_with_spec : {M : Type 1} → statement M
begin_with_spec =
    tie.close
    (tie.spec
    list-refusal-requires
    same_length
    returns
    open-word-requires
    same-length-2
    same-length-3
    returns-2)
