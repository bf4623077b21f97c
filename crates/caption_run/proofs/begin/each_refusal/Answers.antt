use Rattle.std.proofs.Common.{sym, ◌∙◌, get_or, arith}
use Rattle.lang.specs.Checks.{is_letter}
use Rattle.lang.proofs.Every.{every_none, every_more}
use Rattle.caption_run.proofs.BeginLaws.{letters_each, letters_fail}
use Rattle.caption_run.proofs.begin.each_refusal.Goals as goal

pub loop-letter-init : goal.loop-letter-init
loop-letter-init c = every_none (λ j. is_letter (get_or c.args.word.now j 0))

pub returns-then-not-is_letter : goal.returns-then-not-is_letter
returns-then-not-is_letter c =
    letters_fail c.args.word.now c.loop-letter.letter-index (omega arith) (sym c.is_letter.ensures ∙ c.if-not-is_letter.true)

pub loop-letter-preserved : goal.loop-letter-preserved
loop-letter-preserved c =
    every_more c.loop-letter.letter-index (λ j. is_letter (get_or c.args.word.now j 0)) c.loop-letter.invariant
    (sym c.is_letter.ensures ∙ c.if-not-is_letter.false)

pub returns : goal.returns
returns c = letters_each c.args.word.now c.loop-letter.letter-index c.loop-letter.invariant (omega arith) (omega arith)
