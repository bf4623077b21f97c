-- `step_turns::turn::turn_at_letter` meets its contract, by the test of the letter.
-- Assumes nothing.
use mathlib.Core.Path.{sym, ◌∙◌}
use Rattle.step_turns.proofs.Laws.{letter_fits, letter_unfit}
use borrow.Author.Rules.{rules}
use Rattle.step_turns.proofs.turn.turn_at_letter.Statement.{statement}
use Rattle.step_turns.proofs.turn.turn_at_letter.Tie as tie

is-letter-requires : tie.Need-is_letter-requires
is-letter-requires c κs = search rules

turn-with-requires : tie.Need-turn_with-requires
turn-with-requires c κs = search rules

refuses-requires : tie.Need-refuses-requires
refuses-requires c κs = search rules

returns : tie.Need-returns-then-is_letter
returns c =
    let a = c.args in
    rw c.turn_with.ensures
    (sym (letter_fits a.pairs.now a.ops.now a.s a.x a.y (sym c.is_letter.ensures ∙ c.if-is_letter.true)))

returns-2 : tie.Need-returns-else-is_letter
returns-2 c =
    let a = c.args in
    rw c.refuses.ensures
    (sym (letter_unfit a.pairs.now a.ops.now a.s a.x a.y (sym c.is_letter.ensures ∙ c.if-is_letter.false)))

pub turn_at_letter_spec : {M : Type 1} → statement M
turn_at_letter_spec =
    tie.close
    (tie.spec
    is-letter-requires
    turn-with-requires
    refuses-requires
    returns
    returns-2)
