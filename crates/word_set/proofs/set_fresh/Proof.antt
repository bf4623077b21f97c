-- `word_set::set_fresh` meets its contract: the items from a fresh state on.
-- Assumes nothing.
use mathlib.Core.Path.{subst}
use Prim.Native.Nat.{◌/◌}
use lib.IntN.{ℤ}
use lib.ListN.{length}
use Rattle.words.specs.Words.{word_of, number_of}
use Rattle.words.proofs.Bits.{number_word}
use Rattle.captions.specs.Begin.{fresh_state}
use Rattle.captions.specs.Steps.{step_of}
use Rattle.word_set.specs.Setting.{items_from}
use Rattle.word_set.specs.Writing.{Tells}
use Rattle.word_set.proofs.Standing.{blank, tells_zeroed}
use borrow.Author.Rules.{rules}
use Rattle.word_set.proofs.set_fresh.Statement.{statement}
use Rattle.word_set.proofs.set_fresh.Tie as tie

zero-all-requires : tie.Need-zero_all-requires
zero-all-requires c κs = search rules

fresh-state-requires : tie.Need-fresh_state-fresh-requires
fresh-state-requires c κs = search rules

set-from-requires : tie.Need-set_from-requires
set-from-requires c κs =
    blank c.args.items.now c.zero_all.new.s c.zero_all.ensures

same_length : tie.Need-shape_of-items
same_length c = search rules

returns : tie.Need-returns
returns c =
    let a = c.args in
    subst (λ (y : ℤ). Tells
    (items_from a.pairs.now a.ops.now y a.word.now a.options (length a.items.now / 6) (fresh_state a.word.now a.options))
    a.items.now c.set_from.result c.set_from.new.items) (number_word a.boundary c.ranges.boundary)
    (tells_zeroed (step_of a.pairs.now a.ops.now (number_of (word_of a.boundary)) a.word.now a.options) a.items.now c.zero_all.new.s
    c.fresh_state-fresh.result (fresh_state a.word.now a.options) c.fresh_state-fresh.ensures c.zero_all.auto.s c.set_from.result
    c.set_from.new.items c.set_from.ensures)

pub set_fresh_spec : {M : Type 1} → statement M
set_fresh_spec =
    tie.close
    (tie.spec
    zero-all-requires
    fresh-state-requires
    set-from-requires
    same_length
    returns)
