use Rattle.std.proofs.Common.{pos, length, arith}
use Rattle.words.proofs.Bits.{number_is}
use Rattle.words.proofs.Lists.{filling_none}
use Rattle.lang.specs.Records.{is_kind}
use Rattle.lang.proofs.Filled.{filling_put, filling_to}
use Rattle.program_kerns.specs.Kerns.{changed, kern_at}
use Rattle.program_kerns.proofs.write_packed.Goals as goal

pub loop-j-init : goal.loop-j-init
loop-j-init c =
    let a = c.args in
    filling_none (changed a.instructions.now (is_kind 1 a.instructions.now) (pos 0) (kern_at a.instructions.now a.kerns.now)) a.out.now

pub loop-j-preserved : goal.loop-j-preserved
loop-j-preserved c = filling_put c.loop-j.invariant (omega arith) c.put_word.ensures (number_is c.packed_word.ensures)

pub returns : goal.returns
returns c = filling_to (length c.args.instructions.now) c.loop-j.invariant (omega arith)
