use Rattle.std.proofs.Common.{sym, ◌∙◌}
use Rattle.short_word_next.proofs.Laws.{refused_is, taken_short, no_letter_is, letter_is}
use Rattle.short_word_next.proofs.next_word.Goals as goal

pub returns-then-refusal-ne0 : goal.returns-then-refusal-ne0
returns-then-refusal-ne0 c =
    let a = c.args in
    c.no_word.ensures ∙ refused_is a.letters.now a.word.now c.short_refusal-refusal.result c.short_refusal-refusal.ensures c.if-refusal-ne0.true

pub next_over-requires : goal.next_over-requires
next_over-requires c =
    let a = c.args in
    taken_short a.letters.now a.word.now c.short_refusal-refusal.result c.short_refusal-refusal.ensures c.if-refusal-ne0.false

pub returns-in-None : goal.returns-in-None
returns-in-None c =
    let a = c.args in
    c.no_word-in-None.ensures
    ∙ no_letter_is a.letters.now a.word.now c.short_refusal-refusal.result c.short_refusal-refusal.ensures c.if-refusal-ne0.false
    (sym c.in-None.is ∙ c.letter_from.ensures)

pub returns-in-Some : goal.returns-in-Some
returns-in-Some c =
    let a = c.args in
    c.next_over.ensures
    ∙ letter_is a.letters.now a.word.now c.short_refusal-refusal.result c.short_refusal-refusal.ensures c.if-refusal-ne0.false c.in-Some.least
    (sym c.in-Some.is ∙ c.letter_from.ensures)
