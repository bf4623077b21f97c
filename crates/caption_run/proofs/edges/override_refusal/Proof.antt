-- `caption_run::edges::override_refusal` meets its contract, by the sign of the override and by whether it is a letter.
-- Assumes nothing.
use mathlib.Core.Path.{sym, ◌∙◌}
use Rattle.lang.proofs.Records.{word_passed}
use Rattle.caption_run.proofs.BeginLaws.{over_none, over_letter}
use borrow.Author.Rules.{rules}
use Rattle.caption_run.proofs.edges.override_refusal.Statement.{statement}
use Rattle.caption_run.proofs.edges.override_refusal.Tie as tie

word-of-requires : tie.Need-word_of-w-requires
word-of-requires c κs = search rules

returns : tie.Need-returns-then-w-ge2147483648
returns c = over_none (word_passed c.ranges.over c.word_of-w.ensures) c.if-w-ge2147483648.true

is-letter-requires : tie.Need-is_letter-requires
is-letter-requires c κs = search rules

returns-2 : tie.Need-returns-then-is_letter
returns-2 c =
    over_letter _ (word_passed c.ranges.over c.word_of-w.ensures) c.if-w-ge2147483648.false (sym c.is_letter.ensures ∙ c.if-is_letter.true)

returns-3 : tie.Need-returns-else-is_letter
returns-3 c =
    over_letter _ (word_passed c.ranges.over c.word_of-w.ensures) c.if-w-ge2147483648.false (sym c.is_letter.ensures ∙ c.if-is_letter.false)

pub override_refusal_spec : {M : Type 1} → statement M
override_refusal_spec =
    tie.close
    (tie.spec
    word-of-requires
    returns
    is-letter-requires
    returns-2
    returns-3)
