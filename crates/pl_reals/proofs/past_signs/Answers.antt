use mathlib.Core.Path.{◌≡◌, sym, ◌∙◌}
use native.Mathlib.Omega.{arith}
use lib.ListN.{length}
use Rattle.pl_values.proofs.Scanning.{scanned_from}
use Rattle.pl_reals.proofs.RealLaws.{signs_more, signs_stop, signs_over}
use Rattle.pl_reals.proofs.past_signs.Goals as goal

pub returns-then-not-is_sign : goal.returns-then-not-is_sign
returns-then-not-is_sign c =
    let l = c.loop-i in
    let s = signs_stop c.args.text.now l.i l.minus l.held c.loop-i-test.true (sym c.is_sign.ensures ∙ c.if-not-is_sign.true) in
    scanned_from c.signs_end.result c.signs_end.ensures (sym s ∙ l.invariant.1) (λ _. (omega arith, omega arith))

pub loop-i-preserved : goal.loop-i-preserved
loop-i-preserved c =
    let l = c.loop-i in
    let t = c.turned-minus.ensures in
    let s = signs_more c.args.text.now l.i l.minus l.held c.loop-i-test.true (sym c.is_sign.ensures ∙ c.if-not-is_sign.false) in
    (t.1, rw t.0 (sym s ∙ l.invariant.1))

pub returns : goal.returns
returns c =
    let t = c.args.text.now in
    let l = c.loop-i in
    let e : l.i ≡ length t = omega arith in
    let s = signs_over t l.i l.minus l.held c.loop-i-test.false in
    scanned_from c.signs_end-2.result c.signs_end-2.ensures (rw e at (sym s ∙ l.invariant.1)) (λ _. (omega arith, omega arith))
