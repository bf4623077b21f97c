use Rattle.std.proofs.Common.{pos, length, arith}
use Rattle.words.proofs.Bits.{number_is}
use Rattle.words.proofs.Lists.{filling_none}
use Rattle.lang.specs.Records.{field, is_kind}
use Rattle.lang.proofs.Filled.{filling_put, filling_to}
use Rattle.program_kerns.specs.Kerns.{changed, kern_place}
use Rattle.program_kerns.proofs.write_unpacked.Goals as goal

pub loop-j-init : goal.loop-j-init
loop-j-init c =
    let s = c.args.instructions.now in
    filling_none (changed s (is_kind 0 s) (pos 1) (λ i. pos (kern_place (field s i 3) c.args.kerns.now))) c.args.out.now

pub loop-j-preserved : goal.loop-j-preserved
loop-j-preserved c =
    let s = c.args.instructions.now in
    filling_put c.loop-j.invariant (omega arith) c.put_word.ensures
    (number_is {z = changed s (is_kind 0 s) (pos 1) (λ i. pos (kern_place (field s i 3) c.args.kerns.now)) c.loop-j.j} c.unpacked_word.ensures)

pub returns : goal.returns
returns c = filling_to (length c.args.instructions.now) c.loop-j.invariant (omega arith)
