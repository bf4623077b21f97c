-- `short_word_items::set_items` meets its contract: a word set whole, or from a fresh state.
-- Assumes nothing.
use mathlib.Core.Path.{subst}
use Prim.Native.Nat.{◌/◌}
use lib.IntN.{ℤ}
use lib.ListN.{length}
use Rattle.words.proofs.Bits.{number_word}
use Rattle.captions.specs.Begin.{fresh_state, plain_options}
use Rattle.word_set.specs.Setting.{items_from, Sets}
use Rattle.word_set.specs.Writing.{Tells}
use Rattle.short_word_items.proofs.Laws.{first_items, other_items}
use borrow.Author.Rules.{rules}
use Rattle.short_word_items.proofs.set_items.Statement.{statement}
use Rattle.short_word_items.proofs.set_items.Tie as tie

set-word-requires : tie.Need-set_word-requires
set-word-requires c κs = search rules

same_length : tie.Need-shape_of-items-then-first
same_length c = search rules

returns : tie.Need-returns-then-first
returns c =
    let a = c.args in
    first_items a.pairs.now a.ops.now a.boundary a.word.now a.items.now c.set_word.result c.set_word.new.items a.first c.if-first.true
    (subst (λ (y : ℤ). Sets a.pairs.now a.ops.now y a.word.now plain_options a.items.now c.set_word.result c.set_word.new.items)
    (number_word a.boundary c.ranges.boundary) c.set_word.ensures)

set-fresh-requires : tie.Need-set_fresh-requires
set-fresh-requires c κs = search rules

same-length-2 : tie.Need-shape_of-items
same-length-2 c = search rules

returns-2 : tie.Need-returns
returns-2 c =
    let a = c.args in
    other_items a.pairs.now a.ops.now a.boundary a.word.now a.items.now c.set_fresh.result c.set_fresh.new.items a.first c.if-first.false
    (subst (λ (y : ℤ). Tells
    (items_from a.pairs.now a.ops.now y a.word.now plain_options (length a.items.now / 6) (fresh_state a.word.now plain_options))
    a.items.now c.set_fresh.result c.set_fresh.new.items) (number_word a.boundary c.ranges.boundary) c.set_fresh.ensures)

pub set_items_spec : {M : Type 1} → statement M
set_items_spec =
    tie.close
    (tie.spec
    set-word-requires
    same_length
    returns
    set-fresh-requires
    same-length-2
    returns-2)
