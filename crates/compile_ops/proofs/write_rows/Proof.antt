-- `compile_ops::write_rows` meets its contract. The invariant: the ops of the rows that finished before this turn stand where they are to, and nothing past the
-- ops is touched. At the end every row is written, so that the ops of the first rows stand at the front, one after the other.
-- Assumes nothing.
use Prim.Native.Nat.{◌-◌}
use native.Mathlib.Omega.{arith}
use Rattle.compiling.proofs.OpTables.{WritingOps, writing_none, turn_of, writing_more, writing_all}
use borrow.Author.Rules.{rules}
use Rattle.compile_ops.proofs.write_rows.Statement.{statement}
use Rattle.compile_ops.proofs.write_rows.Tie as tie

abbrev invariant-loop : tie.invariant-loop-i
invariant-loop work n m ops₀ i₀ ops i = WritingOps n work ops₀ ops i

abbrev decreases-loop : tie.decreases-loop-i
decreases-loop work n m ops₀ i₀ ops i = m - i

loop-holds : tie.Need-loop-i-init invariant-loop decreases-loop
loop-holds c =
    writing_none c.args.n c.args.m c.args.work.now c.requires.0 c.args.ops.now c.requires.1

get-requires : tie.Need-get-k-requires invariant-loop decreases-loop
get-requires c κs = search rules

cast-k : tie.Need-overflow_cast-k invariant-loop decreases-loop
cast-k c = search rules

write-row-requires : tie.Need-write_row-requires invariant-loop decreases-loop
write-row-requires c κs =
    turn_of c.args.n c.args.m c.args.work.now c.requires.0 c.args.ops.now c.requires.1 c.loop-i.ops c.loop-i.i c.get-k.result
    c.loop-i.invariant c.loop-i-test.true c.get-k.ensures

add-i : tie.Need-overflow_step-i invariant-loop decreases-loop
add-i c = omega (arith, c.loop-i-test.true, c.ranges.m)

loop-less : tie.Need-loop-i-smaller invariant-loop decreases-loop
loop-less c = omega (arith, c.loop-i-test.true)

loop-again : tie.Need-loop-i-preserved invariant-loop decreases-loop
loop-again c =
    writing_more c.args.n c.args.m c.args.work.now c.requires.0 c.args.ops.now c.requires.1 c.loop-i.ops c.loop-i.i c.get-k.result
    c.loop-i.invariant c.loop-i-test.true c.get-k.ensures c.write_row.new.ops
    c.write_row.ensures

same_length : tie.Need-shape_of-ops invariant-loop decreases-loop
same_length c = c.loop-i.invariant.same_length

returns : tie.Need-returns invariant-loop decreases-loop
returns c =
    writing_all c.args.n c.args.m c.args.work.now c.requires.0 c.args.ops.now c.requires.1 c.loop-i.ops c.loop-i.i
    c.loop-i.invariant c.loop-i-test.false c.requires.2

pub write_rows_spec : {M : Type 1} → statement M
write_rows_spec =
    tie.close
    (tie.spec
    invariant-loop
    decreases-loop
    loop-holds
    get-requires
    cast-k
    write-row-requires
    add-i
    loop-less
    loop-again
    same_length
    returns)
