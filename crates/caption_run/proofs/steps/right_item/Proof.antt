-- `caption_run::steps::right_item` meets its contract, by the sign of the override.
-- Assumes nothing.
use Rattle.lang.proofs.Records.{word_passed}
use Rattle.caption_run.proofs.StepLaws.{right_over, right_boundary}
use borrow.Author.Rules.{rules}
use Rattle.caption_run.proofs.steps.right_item.Statement.{statement}
use Rattle.caption_run.proofs.steps.right_item.Tie as tie

word-of-requires : tie.Need-word_of-w-requires
word-of-requires c κs = search rules

word-of-requires-2 : tie.Need-word_of-requires
word-of-requires-2 c κs = search rules

returns : tie.Need-returns-then-w-lt2147483648
returns c =
    right_over c.args.boundary (word_passed c.ranges.over c.word_of-w.ensures) c.if-w-lt2147483648.true

returns-2 : tie.Need-returns-else-w-lt2147483648
returns-2 c =
    right_boundary (word_passed c.ranges.over c.word_of-w.ensures) c.if-w-lt2147483648.false
    (word_passed c.ranges.boundary c.word_of.ensures)

pub right_item_spec : {M : Type 1} → statement M
right_item_spec =
    tie.close
    (tie.spec
    word-of-requires
    word-of-requires-2
    returns
    returns-2)
