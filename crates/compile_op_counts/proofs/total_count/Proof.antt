-- `compile_op_counts::total_count` meets its contract. The invariant: the total is the capped sum of the counts passed.
-- Assumes nothing.
use mathlib.Core.Path.{◌≡◌, ap, ◌∙◌}
use Prim.Native.Nat.{ℕ, ◌-◌, ◌+◌, ◌≤◌}
use native.Mathlib.Omega.{arith}
use Rattle.compiling.specs.OpRows.{capped}
use Rattle.compiling.specs.OpSteps.{counts_before}
use Rattle.compiling.proofs.FieldLaws.{counts_none, counts_more}
use borrow.Author.Rules.{rules}
use Rattle.compile_op_counts.proofs.total_count.Statement.{statement}
use Rattle.compile_op_counts.proofs.total_count.Tie as tie

abbrev invariant-loop : tie.invariant-loop-k
invariant-loop work n total₀ k₀ total k = (total ≡ capped (counts_before work k)) × (k ≤ n)

abbrev decreases-loop : tie.decreases-loop-k
decreases-loop work n total₀ k₀ total k = n - k

loop-holds : tie.Need-loop-k-init invariant-loop decreases-loop
loop-holds c = (counts_none c.args.work.now, omega arith)

get-requires : tie.Need-get-count-requires invariant-loop decreases-loop
get-requires c κs = search rules

capped-sum-requires : tie.Need-capped_sum-total-requires invariant-loop decreases-loop
capped-sum-requires c κs = tt

add-k : tie.Need-overflow_step-k invariant-loop decreases-loop
add-k c = omega arith

loop-less : tie.Need-loop-k-smaller invariant-loop decreases-loop
loop-less c = omega arith

loop-again : tie.Need-loop-k-preserved invariant-loop decreases-loop
loop-again c =
    let w = c.args.work.now in (
      c.capped_sum-total.ensures ∙ ap (λ (x : ℕ). capped (c.loop-k.total + x)) c.get-count.ensures
          ∙ counts_more w c.loop-k.k c.loop-k.total c.loop-k.invariant.0,
      omega (arith, c.loop-k-test.true),
    )

returns : tie.Need-returns invariant-loop decreases-loop
returns c =
    let e : c.loop-k.k ≡ c.args.n = omega (arith, c.loop-k.invariant.1, c.loop-k-test.false) in
    c.loop-k.invariant.0 ∙ ap (λ (x : ℕ). capped (counts_before c.args.work.now x)) e

pub total_count_spec : {M : Type 1} → statement M
total_count_spec =
    tie.close
    (tie.spec
    invariant-loop
    decreases-loop
    loop-holds
    get-requires
    capped-sum-requires
    add-k
    loop-less
    loop-again
    returns)
