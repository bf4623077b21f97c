use Rattle.std.proofs.Common.{◌+◌, arith}
use Rattle.words.proofs.Lists.{filling_none}
use Rattle.lang.proofs.Filled.{filling_put}
use Rattle.files.specs.Commands.{kern_number}
use Rattle.file_reading.proofs.commands.write_kerns.Goals as goal

pub loop-i-init : goal.loop-i-init
loop-i-init c = let a = c.args in filling_none (λ i. kern_number a.file.now (a.w + i)) a.out.now

pub loop-i-preserved : goal.loop-i-preserved
loop-i-preserved c = filling_put c.loop-i.invariant (omega arith) c.put_word.ensures c.kern_word.ensures
