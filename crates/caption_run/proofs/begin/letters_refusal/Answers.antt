use Rattle.std.proofs.Common.{arith}
use Rattle.caption_run.proofs.BeginLaws.{letters_more, letters_low}
use Rattle.caption_run.proofs.begin.letters_refusal.Goals as goal

pub loop-letter-preserved : goal.loop-letter-preserved
loop-letter-preserved c = letters_more c.args.word.now c.loop-letter.letter-index c.loop-letter.all c.loop-letter.invariant

pub returns-else-all-gt32767 : goal.returns-else-all-gt32767
returns-else-all-gt32767 c =
    letters_low c.args.word.now c.loop-letter.letter-index c.loop-letter.all c.loop-letter.invariant (omega arith) c.if-all-gt32767.false
