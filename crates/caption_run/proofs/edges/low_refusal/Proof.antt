-- `caption_run::edges::low_refusal` meets its contract, by the bits of the override.
-- Assumes nothing.
use borrow.Author.Tests.{eq-eqb, ne_eqb}
use Rattle.lang.proofs.Records.{word_passed}
use Rattle.caption_run.proofs.BeginLaws.{low_within, low_past}
use borrow.Author.Rules.{rules}
use Rattle.caption_run.proofs.edges.low_refusal.Statement.{statement}
use Rattle.caption_run.proofs.edges.low_refusal.Tie as tie

word-of-requires : tie.Need-word_of-w-requires
word-of-requires c κs = search rules

returns : tie.Need-returns-then-w-le2147483647
returns c = low_within (word_passed c.ranges.over c.word_of-w.ensures) c.if-w-le2147483647.true

returns-2 : tie.Need-returns-then-w
returns-2 c =
    low_past _ (word_passed c.ranges.over c.word_of-w.ensures) c.if-w-le2147483647.false (eq-eqb c.word_of-w.result 4294967295 c.if-w.true)

returns-3 : tie.Need-returns-else-w
returns-3 c =
    low_past _ (word_passed c.ranges.over c.word_of-w.ensures) c.if-w-le2147483647.false (ne_eqb c.word_of-w.result 4294967295 c.if-w.false)

pub low_refusal_spec : {M : Type 1} → statement M
low_refusal_spec =
    tie.close
    (tie.spec
    word-of-requires
    returns
    returns-2
    returns-3)
