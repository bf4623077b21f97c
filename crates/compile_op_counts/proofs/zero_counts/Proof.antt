-- `compile_op_counts::zero_counts` meets its contract. The invariant: number 12 of the rows passed is 0, and nothing else has changed.
-- Assumes nothing.
use mathlib.Core.Path.{refl}
use Prim.Native.Nat.{ℕ, ◌-◌}
use native.Mathlib.Omega.{arith}
use Rattle.compiling.specs.OpSteps.{FieldStored}
use Rattle.compiling.proofs.FieldLaws.{stored_none, stored_more, stored_all}
use borrow.Author.Rules.{rules}
use Rattle.compile_op_counts.proofs.zero_counts.Statement.{statement}
use Rattle.compile_op_counts.proofs.zero_counts.Tie as tie

abbrev invariant-loop : tie.invariant-loop-k
invariant-loop work₀ n k₀ work k = FieldStored 12 n (λ (_ : ℕ). 0) work₀ work k

abbrev decreases-loop : tie.decreases-loop-k
decreases-loop work₀ n k₀ work k = n - k

loop-holds : tie.Need-loop-k-init invariant-loop decreases-loop
loop-holds c = stored_none 12 c.args.n (λ (_ : ℕ). 0) c.args.work.now

put-requires : tie.Need-put-requires invariant-loop decreases-loop
put-requires c κs = search rules

add-k : tie.Need-overflow_step-k invariant-loop decreases-loop
add-k c = omega arith

loop-less : tie.Need-loop-k-smaller invariant-loop decreases-loop
loop-less c = omega arith

loop-again : tie.Need-loop-k-preserved invariant-loop decreases-loop
loop-again c =
    stored_more 12 c.args.n (λ (_ : ℕ). 0) c.args.work.now c.loop-k.work c.put.new.work c.loop-k.k 0 (omega arith)
    c.loop-k-test.true c.requires.room refl c.loop-k.invariant c.put.ensures

same_length : tie.Need-shape_of-work invariant-loop decreases-loop
same_length c = c.loop-k.invariant.only.same_length

returns : tie.Need-returns invariant-loop decreases-loop
returns c =
    stored_all 12 c.args.n (λ (_ : ℕ). 0) c.args.work.now c.loop-k.work c.loop-k.k c.loop-k-test.false c.loop-k.invariant

pub zero_counts_spec : {M : Type 1} → statement M
zero_counts_spec =
    tie.close
    (tie.spec
    invariant-loop
    decreases-loop
    loop-holds
    put-requires
    add-k
    loop-less
    loop-again
    same_length
    returns)
