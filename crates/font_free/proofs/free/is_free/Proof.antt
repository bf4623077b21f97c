-- `font_free::free::is_free` meets its contract: the first test that fails, or the last.
-- Assumes nothing.
use mathlib.Core.Path.{◌≡◌, sym, ap, ◌∙◌}
use mathlib.Core.Option.{Option}
use Prim.Native.Nat.{ℕ}
use borrow.Author.Tests.{eq-eqb, ne_eqb}
use Rattle.words.proofs.Bits.{number_word}
use Rattle.captions.specs.Steps.{right_item}
use Rattle.font_runs.specs.Changes.{left_free}
use borrow.Author.Rules.{rules}
use Rattle.font_free.proofs.free.is_free.Statement.{statement}
use Rattle.font_free.proofs.free.is_free.Tie as tie

returns : tie.Need-returns-then-s-ne0
returns c = let a = c.args in rw (ne_eqb a.s.ops 0 c.if-s-ne0.true)

returns-2 : tie.Need-returns-then-s-ne0-2
returns-2 c =
    let a = c.args in
    rw (eq-eqb a.s.ops 0 c.if-s-ne0.false, ne_eqb a.s.pending 0 c.if-s-ne0-2.true)

right-item-requires : tie.Need-right_item-right-requires
right-item-requires c κs = search rules

is-left-free-requires : tie.Need-is_left_free-requires
is-left-free-requires c κs = search rules

returns-3 : tie.Need-returns
returns-3 c =
    let a = c.args in
    rw (eq-eqb a.s.ops 0 c.if-s-ne0.false, eq-eqb a.s.pending 0 c.if-s-ne0-2.false)
    (c.is_left_free.ensures
    ∙ ap (λ (o : Option ℕ). left_free a.pairs.now o a.word.now a.s.read a.s.next_left)
    (c.right_item-right.ensures
    ∙ (λ j. right_item (number_word a.boundary c.ranges.boundary j)
    (number_word a.options.right_boundary_override (record { sfits = search rules }) j))))

pub is_free_spec : {M : Type 1} → statement M
is_free_spec =
    tie.close
    (tie.spec
    returns
    returns-2
    right-item-requires
    is-left-free-requires
    returns-3)
