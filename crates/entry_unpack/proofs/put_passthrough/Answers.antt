use Rattle.std.proofs.Common.{length, refl, arith}
use Rattle.words.proofs.Lists.{filling_none}
use Rattle.lang.proofs.Filled.{filling_put, filling_to}
use Rattle.entry_unpack.specs.Unpacking.{passthrough_at}
use Rattle.entry_unpack.proofs.put_passthrough.Goals as goal

pub loop-i-init : goal.loop-i-init
loop-i-init c = filling_none (passthrough_at c.args.instructions.now c.args.entry c.args.passthrough.now) c.args.out.now

pub loop-i-preserved : goal.loop-i-preserved
loop-i-preserved c = filling_put c.loop-i.invariant (omega arith) refl c.passthrough_at.ensures

pub returns : goal.returns
returns c = filling_to (length c.args.passthrough.now) c.loop-i.invariant (omega arith)
