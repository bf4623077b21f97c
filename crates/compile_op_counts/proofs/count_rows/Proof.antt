-- `compile_op_counts::count_rows` meets its contract. The invariant: the rows that finished before this turn have their counts, those that never finish have 0,
-- and nothing else has changed.
-- Assumes nothing.
use Prim.Native.Nat.{◌-◌}
use native.Mathlib.Omega.{arith}
use Rattle.compiling.proofs.FieldLaws.{Counting, counting_none, turn_needs, counting_more, counting_all}
use borrow.Author.Rules.{rules}
use Rattle.compile_op_counts.proofs.count_rows.Statement.{statement}
use Rattle.compile_op_counts.proofs.count_rows.Tie as tie

abbrev invariant-loop : tie.invariant-loop-i
invariant-loop work₀ n m i₀ work i = Counting n work₀ work i

abbrev decreases-loop : tie.decreases-loop-i
decreases-loop work₀ n m i₀ work i = m - i

loop-holds : tie.Need-loop-i-init invariant-loop decreases-loop
loop-holds c =
    counting_none c.args.n c.args.m c.args.work.now c.requires.0 c.requires.1 c.requires.2

get-requires : tie.Need-get-k-requires invariant-loop decreases-loop
get-requires c κs = search rules

cast-k : tie.Need-overflow_cast-k invariant-loop decreases-loop
cast-k c = search rules

row-count-requires : tie.Need-row_count-count-requires invariant-loop decreases-loop
row-count-requires c κs =
    turn_needs c.args.n c.args.m c.args.work.now c.requires.0 c.requires.1 c.loop-i.work c.loop-i.i c.loop-i.invariant
    c.loop-i-test.true c.get-k.result c.get-k.ensures

put-requires : tie.Need-put-requires invariant-loop decreases-loop
put-requires c κs = search rules

add-i : tie.Need-overflow_step-i invariant-loop decreases-loop
add-i c =
    omega (
      arith,
      c.loop-i-test.true,
      c.ranges.m,
    )

loop-less : tie.Need-loop-i-smaller invariant-loop decreases-loop
loop-less c = omega (arith, c.loop-i-test.true)

loop-again : tie.Need-loop-i-preserved invariant-loop decreases-loop
loop-again c =
    counting_more c.args.n c.args.m c.args.work.now c.requires.0 c.requires.1 c.loop-i.work c.loop-i.i c.loop-i.invariant
    c.loop-i-test.true c.get-k.result
    c.row_count-count.result c.put.new.work c.get-k.ensures
    c.row_count-count.ensures c.put.ensures

same_length : tie.Need-shape_of-work invariant-loop decreases-loop
same_length c = c.loop-i.invariant.only.same_length

returns : tie.Need-returns invariant-loop decreases-loop
returns c =
    counting_all c.args.n c.args.m c.args.work.now c.requires.0 c.requires.1 c.loop-i.work c.loop-i.i c.loop-i.invariant
    c.loop-i-test.false

pub count_rows_spec : {M : Type 1} → statement M
count_rows_spec =
    tie.close
    (tie.spec
    invariant-loop
    decreases-loop
    loop-holds
    get-requires
    cast-k
    row-count-requires
    put-requires
    add-i
    loop-less
    loop-again
    same_length
    returns)
