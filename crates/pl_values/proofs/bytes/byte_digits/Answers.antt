use mathlib.Core.Path.{◌≡◌, sym, ◌∙◌}
use native.Mathlib.Omega.{arith}
use lib.ListN.{length}
use Rattle.pl_values.proofs.Scanning.{scanned_at, scanned_none}
use Rattle.pl_values.proofs.ByteLaws.{digits_stop, digits_over, digits_more, digits_end}
use Rattle.pl_values.proofs.bytes.byte_digits.Goals as goal

pub returns-then-base-d : goal.returns-then-base-d
returns-then-base-d c =
    let a = c.args in
    let l = c.loop-i in
    let f = c.figure_of-d.ensures.0 in
    scanned_at _ (sym l.invariant.1 ∙ digits_stop a.text.now l.i a.base l.n c.loop-i-test.true (omega (arith, c.if-base-d.true, f)))
    (λ _. omega arith) (omega arith)

pub returns-then-base-n-gt255 : goal.returns-then-base-n-gt255
returns-then-base-n-gt255 c =
    let a = c.args in
    let l = c.loop-i in
    let f = c.figure_of-d.ensures.0 in
    scanned_none _ (sym l.invariant.1 ∙ digits_over a.text.now l.i a.base l.n c.loop-i-test.true (omega (arith, c.if-base-d.false, f))
    (omega (arith, c.if-base-n-gt255.true, f)))

pub loop-i-preserved : goal.loop-i-preserved
loop-i-preserved c =
    let a = c.args in
    let l = c.loop-i in
    let f = c.figure_of-d.ensures.0 in (
      omega (arith, c.if-base-n-gt255.false),
      rw f (sym (digits_more a.text.now l.i a.base l.n c.loop-i-test.true (omega (arith, c.if-base-d.false, f))
          (omega (arith, c.if-base-n-gt255.false, f))) ∙ l.invariant.1),
    )

pub returns : goal.returns
returns c =
    let a = c.args in
    let l = c.loop-i in
    let e : l.i ≡ length a.text.now = omega arith in
    scanned_at _ (rw e at (sym l.invariant.1 ∙ digits_end a.text.now l.i a.base l.n c.loop-i-test.false)) (λ _. omega arith) (omega arith)
