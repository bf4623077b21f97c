-- `short_word_next::checked_next` meets its contract: 4 of the boundary character first.
-- Assumes nothing.
use mathlib.Core.Path.{ap, ◌∙◌}
use Rattle.words.proofs.Bits.{number_word}
use Rattle.lang.specs.Checks.{absent_refusal}
use Rattle.short_words.specs.NextWords.{next_short_word, short_refusal}
use Rattle.short_word_next.proofs.Laws.{edge_refused, edge_taken}
use borrow.Author.Rules.{rules}
use Rattle.short_word_next.proofs.checked_next.Statement.{statement}
use Rattle.short_word_next.proofs.checked_next.Tie as tie

absent-refusal-requires : tie.Need-absent_refusal-edge-requires
absent-refusal-requires c κs = search rules

no-word-requires : tie.Need-no_word-requires
no-word-requires c κs = search rules

returns : tie.Need-returns-then-edge-ne0
returns c =
    let a = c.args in
    c.no_word.ensures
    ∙ edge_refused (absent_refusal 255 a.boundary) (short_refusal a.letters.now a.word.now) c.absent_refusal-edge.result
    (next_short_word a.letters.now a.word.now) (c.absent_refusal-edge.ensures ∙ ap (absent_refusal 255) (number_word a.boundary c.ranges.boundary)) c.if-edge-ne0.true

next-word-requires : tie.Need-next_word-requires
next-word-requires c κs = search rules

returns-2 : tie.Need-returns
returns-2 c =
    let a = c.args in
    c.next_word.ensures
    ∙ edge_taken (absent_refusal 255 a.boundary) (short_refusal a.letters.now a.word.now) c.absent_refusal-edge.result (next_short_word a.letters.now a.word.now)
    (c.absent_refusal-edge.ensures ∙ ap (absent_refusal 255) (number_word a.boundary c.ranges.boundary)) c.if-edge-ne0.false

pub checked_next_spec : {M : Type 1} → statement M
checked_next_spec =
    tie.close
    (tie.spec
    absent-refusal-requires
    no-word-requires
    returns
    next-word-requires
    returns-2)
