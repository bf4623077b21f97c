use mathlib.Core.Path.{◌≡◌, sym, ◌∙◌}
use native.Mathlib.Omega.{arith}
use lib.ListN.{length}
use Rattle.pl_reals.proofs.RealLaws.{figures_none, figures_one}
use Rattle.pl_reals.proofs.figures_end.Goals as goal

pub returns-then-not-is_figure : goal.returns-then-not-is_figure
returns-then-not-is_figure c =
    let l = c.loop-i in
    l.invariant l.i (figures_none c.args.text.now l.i 0 (λ _. sym c.is_figure.ensures ∙ c.if-not-is_figure.true) (omega arith))

pub loop-i-preserved : goal.loop-i-preserved
loop-i-preserved c =
    let l = c.loop-i in
    λ r p. l.invariant r (figures_one c.args.text.now l.i r c.loop-i-test.true (sym c.is_figure.ensures ∙ c.if-not-is_figure.false) p)

pub returns : goal.returns
returns c =
    let t = c.args.text.now in
    let e : c.loop-i.i ≡ length t = omega arith in
    c.loop-i.invariant (length t) (rw e (figures_none t (length t) 0 (λ h. absurd (omega arith)) (omega arith)))
