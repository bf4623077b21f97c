use Rattle.std.proofs.Common.{leb, get_or, sym}
use Rattle.lang.proofs.Every.{every_none}
use Rattle.chip_check.proofs.Laws.{or_more}
use Rattle.c_chip_read.proofs.are_bytes.Goals as goal

pub loop-code-init : goal.loop-code-init
loop-code-init c = sym (every_none (λ i. leb (get_or c.args.codes.now i 0) 255))

pub loop-code-preserved : goal.loop-code-preserved
loop-code-preserved c = or_more 8 255 (λ _. 256) c.args.codes.now c.loop-code.code-index c.loop-code.all c.loop-code.invariant
