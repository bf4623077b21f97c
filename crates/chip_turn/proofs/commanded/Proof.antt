-- `chip_turn::commanded` meets its contract: refused before the command is looked at, or by the command.
-- Assumes nothing.
use mathlib.Core.Path.{◌≡◌, sym, ap, ◌∙◌}
use mathlib.Core.List.{[], ◌∷◌}
use lib.IntN.{ℤ}
use Rattle.words.proofs.Bits.{number_word}
use Rattle.chip_turn.proofs.Laws.{early_refusal, turned_whole, early_whole, edge_passed, chip_passed}
use Rattle.chip_turn.specs.Turns.{turned_of}
use borrow.Author.Rules.{rules}
use Rattle.chip_turn.proofs.commanded.Statement.{statement}
use Rattle.chip_turn.proofs.commanded.Tie as tie

-- what was refused before, of the boundary character as it was lent
early : (c : tie.After-early_refusal-refusal) → let a = c.args in c.early_refusal-refusal.result ≡ early_refusal a.boundary a.chip a.bytes
early c =
    let a = c.args in
    c.early_refusal-refusal.ensures ∙ ap (λ (b : ℤ). early_refusal b a.chip a.bytes) (number_word a.boundary c.ranges.boundary)

-- nothing was
none : (c : tie.Else-refusal-ne0) → let a = c.args in early_refusal a.boundary a.chip a.bytes ≡ 0
none c = sym (early c.before) ∙ c.if-refusal-ne0.false

early-refusal-requires : tie.Need-early_refusal-refusal-requires
early-refusal-requires c κs = search rules

returns : tie.Need-returns-then-refusal-ne0
returns c =
    let a = c.args in
    early_whole a.pairs.now a.ops.now a.boundary a.bytes (a.command ∷ a.letter ∷ []) a.chip (early (c.before)) c.if-refusal-ne0.true

turned-requires : tie.Need-turned-requires
turned-requires c κs =
    let a = c.args in (
      rw (number_word a.boundary c.ranges.boundary) (edge_passed a.boundary a.chip a.bytes (none c)),
      chip_passed a.boundary a.chip a.bytes (none c),
    )

returns-2 : tie.Need-returns
returns-2 c =
    let a = c.args in
    c.turned.ensures
    ∙ ap (λ (b : ℤ). turned_of a.pairs.now a.ops.now b (a.command ∷ a.letter ∷ []) a.chip) (number_word a.boundary c.ranges.boundary)
    ∙ turned_whole a.pairs.now a.ops.now a.boundary a.bytes (a.command ∷ a.letter ∷ []) a.chip (none (c.before))

pub commanded_spec : {M : Type 1} → statement M
commanded_spec =
    tie.close
    (tie.spec
    early-refusal-requires
    returns
    turned-requires
    returns-2)
