use mathlib.Core.Path.{◌≡◌, sym, ap, ◌∙◌}
use Prim.Native.Nat.{ℕ}
use native.Mathlib.Omega.{arith}
use lib.Seq.{slice}
use Rattle.property_lists.specs.Reals.{decimal_sum}
use Rattle.pl_reals.proofs.RealLaws.{sum_none, sum_more}
use Rattle.pl_reals.proofs.decimal_sum.Goals as goal

pub loop-k-init : goal.loop-k-init
loop-k-init c = (c.requires.0, omega arith, sym (sum_none c.args.text.now c.args.end))

pub loop-k-preserved : goal.loop-k-preserved
loop-k-preserved c =
    let a = c.args in
    let l = c.loop-k in
    let d = c.digit_of.ensures in
    (omega arith, omega (arith, d.1), sum_more a.text.now l.k a.end l.a c.digit_of.result (omega arith) (omega arith) c.requires.1 l.invariant.2 d.0)

pub returns : goal.returns
returns c =
    let a = c.args in
    let k : c.loop-k.k ≡ a.from = omega arith in
    (c.loop-k.invariant.2 ∙ ap (λ (j : ℕ). decimal_sum (slice j a.end a.text.now)) k, c.loop-k.invariant.1)
