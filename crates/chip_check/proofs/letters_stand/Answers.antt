use Rattle.std.proofs.Common.{leb, get_or, sym}
use Rattle.lang.proofs.Every.{every_none}
use Rattle.chip_check.proofs.Laws.{or_more}
use Rattle.chip_check.proofs.letters_stand.Goals as goal

pub loop-letter-init : goal.loop-letter-init
loop-letter-init c = sym (every_none (λ i. leb (get_or c.args.word.now i 0) 255))

pub loop-letter-preserved : goal.loop-letter-preserved
loop-letter-preserved c = or_more 8 255 (λ _. 256) c.args.word.now c.loop-letter.letter-index c.loop-letter.all c.loop-letter.invariant
