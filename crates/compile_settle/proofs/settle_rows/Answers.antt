use Rattle.compiling.proofs.SettleLaws.{passed_none, passed_all}
use Rattle.compile_settle.proofs.settle_rows.Goals as goal

pub loop-k-init : goal.loop-k-init
loop-k-init c = passed_none c.args.n c.args.work.now c.requires.0 c.requires.1

pub returns : goal.returns
returns c =
    passed_all c.args.n c.loop-k.m c.loop-k.k c.args.work.now c.loop-k.work c.loop-k.invariant c.loop-k-test.false
