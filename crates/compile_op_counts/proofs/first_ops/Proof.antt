-- `compile_op_counts::first_ops` meets its contract. The invariant: number 13 of the rows passed is how many ops come before, nothing else has changed, and
-- the total is that of the rows passed.
-- Assumes nothing.
use mathlib.Core.Path.{◌≡◌}
use Prim.Native.Nat.{◌-◌}
use native.Mathlib.Omega.{arith}
use Rattle.compiling.specs.OpSteps.{FieldStored}
use Rattle.compiling.proofs.OpLaws.{ops_up_to}
use Rattle.compiling.proofs.FieldLaws.{stored_none, before_none, first_again, first_within}
use borrow.Author.Rules.{rules}
use Rattle.compile_op_counts.proofs.first_ops.Statement.{statement}
use Rattle.compile_op_counts.proofs.first_ops.Tie as tie

abbrev invariant-loop : tie.invariant-loop-k
invariant-loop work₀ n m total₀ k₀ work total k = (FieldStored 13 n (ops_up_to n work₀) work₀ work k) × (total ≡ ops_up_to n work₀ k)

abbrev decreases-loop : tie.decreases-loop-k
decreases-loop work₀ n m total₀ k₀ work total k = n - k

loop-holds : tie.Need-loop-k-init invariant-loop decreases-loop
loop-holds c =
    (stored_none 13 c.args.n (ops_up_to c.args.n c.args.work.now) c.args.work.now, before_none c.args.n c.args.work.now)

put-requires : tie.Need-put-requires invariant-loop decreases-loop
put-requires c κs = search rules

get-requires : tie.Need-get-count-requires invariant-loop decreases-loop
get-requires c κs = search rules

add_total : tie.Need-overflow_add-total invariant-loop decreases-loop
add_total c =
    omega (
      arith,
      c.requires.3,
      first_within c.args.n c.args.work.now c.requires.0.ascending.room c.requires.2 c.loop-k.work c.put.new.work c.loop-k.k c.loop-k.total
          c.get-count.result c.loop-k-test.true c.loop-k.invariant.0 c.loop-k.invariant.1 c.put.ensures c.get-count.ensures,
    )

add-k : tie.Need-overflow_step-k invariant-loop decreases-loop
add-k c =
    omega (
      arith,
      c.loop-k-test.true,
      c.ranges.n,
    )

loop-less : tie.Need-loop-k-smaller invariant-loop decreases-loop
loop-less c = omega (arith, c.loop-k-test.true)

loop-again : tie.Need-loop-k-preserved invariant-loop decreases-loop
loop-again c =
    first_again c.args.n c.args.work.now c.requires.0.ascending.room c.requires.2 c.loop-k.work c.put.new.work c.loop-k.k c.loop-k.total
    c.get-count.result c.loop-k-test.true c.loop-k.invariant.0 c.loop-k.invariant.1 c.put.ensures c.get-count.ensures

same_length : tie.Need-shape_of-work invariant-loop decreases-loop
same_length c = c.loop-k.invariant.0.only.same_length

returns : tie.Need-returns invariant-loop decreases-loop
returns c =
    let x = c.loop-k.invariant.0 in
    record { only = x.only; firsts = λ k h. x.stored k (omega (arith, c.loop-k-test.false)) }

pub first_ops_spec : {M : Type 1} → statement M
first_ops_spec =
    tie.close
    (tie.spec
    invariant-loop
    decreases-loop
    loop-holds
    put-requires
    get-requires
    add_total
    add-k
    loop-less
    loop-again
    same_length
    returns)
