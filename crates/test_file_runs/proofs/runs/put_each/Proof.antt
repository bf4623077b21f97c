-- `test_file_runs::runs::put_each` stays within the answer: the invariant. Each turn ends past the run.
-- Assumes nothing.
use native.Mathlib.Omega.{arith}
use Prim.Native.Nat.{◌≤◌, ◌-◌}
use mathlib.Core.Path.{◌≡◌}
use lib.ListN.{length}
use Rattle.test_file_runs.proofs.runs.put_each.Statement.{statement}
use Rattle.test_file_runs.proofs.runs.put_each.Tie as tie

abbrev invariant-loop : tie.invariant-loop-i
invariant-loop out₀ at list next₀ i₀ out next i = (length out ≡ length out₀) × (at ≤ length out₀ → (at ≤ next) × (next ≤ length out))

abbrev decreases-loop : tie.decreases-loop-i
decreases-loop out₀ at list next₀ i₀ out next i = length list - i

loop-holds : tie.Need-loop-i-init invariant-loop decreases-loop
loop-holds c = (omega arith, λ h. (omega arith, h))

run-end-requires : tie.Need-run_end-end-requires invariant-loop decreases-loop
run-end-requires c κs = omega arith

sub-put-run : tie.Need-overflow_sub-end invariant-loop decreases-loop
sub-put-run c = let e = c.run_end-end.ensures in omega (arith, e.0, e.1)

word-at-requires : tie.Need-word_at-requires invariant-loop decreases-loop
word-at-requires c κs = tt

put-run-requires : tie.Need-put_run-next-requires invariant-loop decreases-loop
put-run-requires c κs = tt

loop-less : tie.Need-loop-i-smaller invariant-loop decreases-loop
loop-less c = let e = c.run_end-end.ensures in omega (arith, e.0, e.1)

loop-again : tie.Need-loop-i-preserved invariant-loop decreases-loop
loop-again c =
    let inv = c.loop-i.invariant in
    (omega (arith, c.put_run-next.auto.out), λ h. let e = c.put_run-next.ensures (inv.1 h).1 in (omega (arith, (inv.1 h).0, e.0), e.1))

same_length : tie.Need-shape_of-out invariant-loop decreases-loop
same_length c = omega arith

returns : tie.Need-returns invariant-loop decreases-loop
returns c = c.loop-i.invariant.1

pub put_each_spec : {M : Type 1} → statement M
put_each_spec =
    tie.close
    (tie.spec
    invariant-loop
    decreases-loop
    loop-holds
    run-end-requires
    sub-put-run
    word-at-requires
    put-run-requires
    loop-less
    loop-again
    same_length
    returns)
