use Rattle.std.proofs.Common.{◌+◌, ◌*◌, get_or, pos, arith}
use Rattle.words.proofs.Bits.{number_is}
use Rattle.words.proofs.Lists.{filling_none}
use Rattle.lang.proofs.Filled.{filling_put}
use Rattle.font_unpack.proofs.Written.{filling_part}
use Rattle.font_unpack.proofs.put_own.Goals as goal

pub loop-j-init : goal.loop-j-init
loop-j-init c = let a = c.args in filling_none (λ j. get_or a.instructions.now (4 * a.front + j) (pos 0)) a.out.now

pub loop-j-preserved : goal.loop-j-preserved
loop-j-preserved c = filling_put c.loop-j.invariant (omega arith) c.put_word.ensures (number_is c.word_at.ensures)

pub returns : goal.returns
returns c = let a = c.args in filling_part a.instructions.now a.front a.count c.requires.0 (omega arith) c.loop-j.invariant
