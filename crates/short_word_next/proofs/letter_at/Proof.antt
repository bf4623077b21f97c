-- `short_word_next::letter_at` meets its contract: a letter by its place.
-- Assumes nothing.
use mathlib.Core.Path.{◌∙◌}
use borrow.Author.Rules.{rules}
use Rattle.short_word_next.proofs.Laws.{letter_kept, letter_there, letter_least, letter_past}
use Rattle.short_word_next.proofs.letter_at.Statement.{statement}
use Rattle.short_word_next.proofs.letter_at.Tie as tie

item-at-requires : tie.Need-item_at-requires
item-at-requires c κs = search rules

returns : tie.Need-returns-then-j-kept
returns c =
    let a = c.args in
    c.item_at.ensures ∙ letter_kept a.word.now a.kept a.c a.least a.n a.j (search rules) (search rules)

returns-2 : tie.Need-returns-then-j-kept-2
returns-2 c =
    let a = c.args in
    letter_there a.word.now a.kept a.c a.least a.n a.j (search rules) (search rules)

returns-3 : tie.Need-returns-then-j-n
returns-3 c =
    let a = c.args in
    letter_least a.word.now a.kept a.c a.least a.n a.j (search rules) (search rules) (search rules)

returns-4 : tie.Need-returns-else-j-n
returns-4 c =
    let a = c.args in
    letter_past a.word.now a.kept a.c a.least a.n a.j (search rules) (search rules) (search rules)

pub letter_at_spec : {M : Type 1} → statement M
letter_at_spec =
    tie.close
    (tie.spec
    item-at-requires
    returns
    returns-2
    returns-3
    returns-4)
