use Rattle.std.proofs.Common.{arith}
use Rattle.words.proofs.Lists.{filling_none}
use Rattle.lang.proofs.Entered.{number_le}
use Rattle.lang.proofs.Filled.{filling_put}
use Rattle.font_unpackings.specs.Unpackings.{moved_number}
use Rattle.font_unpack.proofs.put_entries.Goals as goal

pub loop-j-init : goal.loop-j-init
loop-j-init c = let a = c.args in filling_none (moved_number a.entries.now a.front) a.out.now

pub moved_number-requires : goal.moved_number-requires
moved_number-requires c =
    omega (arith, number_le 65535 c.args.entries.now c.requires.0 c.loop-j.j c.loop-j-test.true)

pub loop-j-preserved : goal.loop-j-preserved
loop-j-preserved c = filling_put c.loop-j.invariant (omega arith) c.put_word.ensures c.moved_number.ensures
