-- `step_turns::left::give_left` meets its contract, by whether the left is a character.
-- Assumes nothing.
use mathlib.Core.Path.{◌∙◌, sym}
use borrow.Author.Tests.{not-true, not-false}
use Rattle.step_turns.proofs.Laws.{left_gives_lem, left_goes_lem}
use borrow.Author.Rules.{rules}
use Rattle.step_turns.proofs.left.give_left.Statement.{statement}
use Rattle.step_turns.proofs.left.give_left.Tie as tie

is-character-requires : tie.Need-is_character-requires
is-character-requires c κs = search rules

returns : tie.Need-returns-then-not-is_character
returns c =
    let a = c.args in
    sym (left_goes_lem a.x a.s (sym c.is_character.ensures ∙ c.if-not-is_character.true))

next-code-requires : tie.Need-next_code-requires
next-code-requires c κs = search rules

give-character-requires : tie.Need-give_character-given-requires
give-character-requires c κs = search rules

returns-2 : tie.Need-returns
returns-2 c =
    let a = c.args in
    rw (c.give_character-given.ensures, c.next_code.ensures)
    (sym (left_gives_lem a.x a.s (sym c.is_character.ensures ∙ c.if-not-is_character.false)))

pub give_left_spec : {M : Type 1} → statement M
give_left_spec =
    tie.close
    (tie.spec
    is-character-requires
    returns
    next-code-requires
    give-character-requires
    returns-2)
