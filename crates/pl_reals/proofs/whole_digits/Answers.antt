use mathlib.Core.Path.{◌≡◌, sym, ◌∙◌}
use native.Mathlib.Omega.{arith}
use lib.ListN.{length}
use Rattle.pl_values.proofs.Scanning.{scanned_at, scanned_none}
use Rattle.pl_reals.proofs.RealLaws.{whole_stop, whole_over, whole_more, whole_end}
use Rattle.pl_reals.proofs.whole_digits.Goals as goal

pub returns-then-not-is_figure : goal.returns-then-not-is_figure
returns-then-not-is_figure c =
    let l = c.loop-i in
    let s = whole_stop c.args.text.now l.i l.n c.loop-i-test.true (sym c.is_figure.ensures ∙ c.if-not-is_figure.true) in
    scanned_at _ (sym l.invariant.1 ∙ s) (λ _. omega arith) (omega arith)

pub returns-then-m-ge2048 : goal.returns-then-m-ge2048
returns-then-m-ge2048 c =
    let l = c.loop-i in
    let s = whole_over c.args.text.now l.i l.n c.loop-i-test.true (sym c.is_figure.ensures ∙ c.if-not-is_figure.false)
    (omega (arith, c.digit_of.ensures.0)) in
    scanned_none _ (sym l.invariant.1 ∙ s)

pub loop-i-preserved : goal.loop-i-preserved
loop-i-preserved c =
    let l = c.loop-i in
    let d = c.digit_of.ensures.0 in
    let s = whole_more c.args.text.now l.i l.n c.loop-i-test.true (sym c.is_figure.ensures ∙ c.if-not-is_figure.false)
    (omega (arith, d)) in
    (omega arith, rw d (sym s ∙ l.invariant.1))

pub returns : goal.returns
returns c =
    let t = c.args.text.now in
    let l = c.loop-i in
    let e : l.i ≡ length t = omega arith in
    scanned_at _ (rw e at (sym l.invariant.1 ∙ whole_end t l.i l.n c.loop-i-test.false)) (λ _. omega arith) (omega arith)
