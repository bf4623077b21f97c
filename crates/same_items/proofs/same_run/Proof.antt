-- `same_items::same_run` meets its contract: both runs start from the fresh state.
-- Assumes nothing.
use mathlib.Core.Path.{◌≡◌, ap, ◌∙◌}
use borrow.Author.Rules.{rules}
use lib.IntN.{ℤ}
use Rattle.words.proofs.Bits.{number_word}
use Rattle.captions.specs.declared.State.{State}
use Rattle.removals.specs.Items.{run_items, same_items}
use Rattle.same_items.proofs.same_run.Statement.{statement}
use Rattle.same_items.proofs.same_run.Tie as tie

fresh-state-requires : tie.Need-fresh_state-fresh-requires
fresh-state-requires c κs = search rules

same-from-requires : tie.Need-same_from-requires
same-from-requires c κs = search rules

returns : tie.Need-returns
returns c =
    let a = c.args in
    c.same_from.ensures
    ∙ (λ i. same_items
    (run_items a.pairs.now a.ops.now (number_word a.boundary c.ranges.boundary i) a.word.now a.options (c.fresh_state-fresh.ensures i))
    (run_items a.pairs_without.now a.ops_without.now (number_word a.boundary c.ranges.boundary i) a.word.now a.options
    (c.fresh_state-fresh.ensures i)))

pub same_run_spec : {M : Type 1} → statement M
same_run_spec =
    tie.close
    (tie.spec
    fresh-state-requires
    same-from-requires
    returns)
