use Rattle.std.proofs.Common.{get_or, sym}
use Rattle.lang.proofs.Every.{every_none}
use Rattle.chip_check.proofs.Laws.{or_more}
use Rattle.c_chips.specs.ChipLists.{is_word}
use Rattle.c_chip_read.proofs.are_words.Goals as goal

pub loop-code-init : goal.loop-code-init
loop-code-init c = sym (every_none (λ i. is_word (get_or c.args.codes.now i 0)))

pub loop-code-preserved : goal.loop-code-preserved
loop-code-preserved c =
    or_more 32 4294967295 (λ _. 4294967296) c.args.codes.now c.loop-code.code-index c.loop-code.all c.loop-code.invariant
