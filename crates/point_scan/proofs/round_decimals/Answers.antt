use mathlib.Core.Path.{◌≡◌, ap}
use Prim.Native.Nat.{ℕ, ◌+◌, ◌/◌}
use native.Mathlib.Omega.{arith}
use Rattle.point_scan.proofs.Passing.{halved_none, halved_more, halved_all}
use Rattle.point_scan.proofs.round_decimals.Goals as goal

pub loop-k-init : goal.loop-k-init
loop-k-init c = halved_none c.args.text.now (omega (arith, c.min-k.ensures))

pub loop-k-preserved : goal.loop-k-preserved
loop-k-preserved c = halved_more c.loop-k.invariant c.loop-k-test.true c.digit_at.ensures

pub returns : goal.returns
returns c =
    let k : c.loop-k.k ≡ 0 = omega arith in
    (ap (λ (x : ℕ). (x + 1) / 2) (halved_all c.loop-k.invariant k), omega (arith, c.loop-k.invariant.small))
