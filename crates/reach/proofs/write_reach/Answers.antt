use Rattle.std.proofs.Common.{◌*◌, arith}
use Rattle.words.proofs.Lists.{filling_none}
use Rattle.lang.specs.Records.{count}
use Rattle.lang.proofs.Filled.{filling_to}
use Rattle.reach.specs.Reach.{reach_number}
use Rattle.reach.proofs.Numbers.{written_more}
use Rattle.reach.proofs.write_reach.Goals as goal

pub loop-i-init : goal.loop-i-init
loop-i-init c = filling_none (reach_number c.args.instructions.now c.args.marks.now c.args.passthrough.now) c.args.out.now

pub loop-i-preserved : goal.loop-i-preserved
loop-i-preserved c =
    let a = c.args in
    written_more a.instructions.now a.marks.now a.passthrough.now a.out.now c.loop-i.out c.put_word.new.s c.put_word-in-loop-i.new.s c.loop-i.i
    c.state_of.result c.skip_of.result c.loop-i.invariant (omega arith) c.state_of.ensures c.skip_of.ensures c.put_word.ensures
    c.put_word-in-loop-i.ensures

pub returns : goal.returns
returns c = filling_to (2 * count c.args.instructions.now) c.loop-i.invariant (omega arith)
