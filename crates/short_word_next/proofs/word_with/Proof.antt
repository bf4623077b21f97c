-- `short_word_next::word_with` meets its contract: four letters, each by its place.
-- Assumes nothing.
use Rattle.short_word_next.specs.Placing.{letters_with}
use Rattle.short_word_next.proofs.Laws.{with_length_lem, word_is}
use borrow.Author.Rules.{rules}
use Rattle.short_word_next.proofs.word_with.Statement.{statement}
use Rattle.short_word_next.proofs.word_with.Tie as tie

letter-at-requires : tie.Need-letter_at-first-requires
letter-at-requires c κs = search rules

letter-at-requires-2 : tie.Need-letter_at-second-requires
letter-at-requires-2 c κs = search rules

letter-at-requires-3 : tie.Need-letter_at-third-requires
letter-at-requires-3 c κs = search rules

letter-at-requires-4 : tie.Need-letter_at-fourth-requires
letter-at-requires-4 c κs = search rules

returns : tie.Need-returns
returns c =
    let a = c.args in
    let w = letters_with a.word.now a.kept a.c a.least a.n in
    word_is w a.n c.letter_at-first.result c.letter_at-second.result c.letter_at-third.result
    c.letter_at-fourth.result (with_length_lem a.word.now a.kept a.c a.least a.n (search rules) (search rules))
    c.letter_at-first.ensures
    c.letter_at-second.ensures c.letter_at-third.ensures c.letter_at-fourth.ensures

pub word_with_spec : {M : Type 1} → statement M
word_with_spec =
    tie.close
    (tie.spec
    letter-at-requires
    letter-at-requires-2
    letter-at-requires-3
    letter-at-requires-4
    returns)
