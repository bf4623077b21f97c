use Rattle.std.proofs.Common.{refl}
use Rattle.compiling.proofs.PairRowLaws.{over_is}
use Rattle.compile_collect.proofs.Lefts.{lefts_adding, lefts_all}
use Rattle.compile_collect.proofs.collect_rows.Goals as goal

pub add_left-requires : goal.add_left-requires
add_left-requires c =
    lefts_adding c.args.instructions.now c.args.table.now c.args.cap c.args.work.now c.loop-left.e c.loop-left.left c.loop-left.n
    c.loop-left.work c.loop-left.invariant c.requires.0 c.requires.1 c.requires.2 c.loop-left-test.true

pub returns-in_default : goal.returns-in_default
returns-in_default c = (
  refl,
  over_is c.args.instructions.now c.args.table.now c.loop-left.left c.loop-left.n c.args.cap c.loop-left.work c.add_left.new.work
      c.add_left.result c.add_left.ensures c.loop-left-test.true c.in_default.is,
)

pub returns : goal.returns
returns c =
    lefts_all c.args.instructions.now c.args.table.now c.args.cap c.args.work.now c.loop-left.e c.loop-left.left c.loop-left.n
    c.loop-left.work c.loop-left.invariant c.loop-left-test.false
