use mathlib.Core.Path.{◌≡◌, sym, ap, ◌∙◌}
use native.Mathlib.Omega.{arith}
use lib.ListN.{length, drop}
use Rattle.property_lists.specs.Chars.{pass_over}
use Rattle.pl_blanks.proofs.Places.{at_end_lem, passed_from}
use Rattle.pl_blanks.proofs.Passing.{over_more, over_stop, over_end}
use Rattle.pl_blanks.proofs.pass_over.Goals as goal

pub returns-then-not-is_passed : goal.returns-then-not-is_passed
returns-then-not-is_passed c =
    let a = c.args in
    let l = c.loop-i in
    passed_from c.unless_held.result c.unless_held.ensures
    (sym (over_stop a.text.now l.i a.all l.held c.loop-i-test.true (sym c.is_passed.ensures ∙ c.if-not-is_passed.true)) ∙ l.invariant)
    (λ h. (omega arith, omega arith))

pub loop-i-preserved : goal.loop-i-preserved
loop-i-preserved c =
    let a = c.args in
    let l = c.loop-i in
    sym (over_more a.text.now l.i a.all l.held c.loop-i-test.true (sym c.is_passed.ensures ∙ c.if-not-is_passed.false)) ∙ l.invariant

pub returns : goal.returns
returns c =
    let a = c.args in
    let l = c.loop-i in
    let t = a.text.now in
    let e : drop (length t) t ≡ drop l.i t = at_end_lem t (length t) (omega arith) ∙ sym (at_end_lem t l.i c.loop-i-test.false) in
    passed_from c.unless_held-2.result c.unless_held-2.ensures
    (sym (over_end t (length t) a.all l.held (omega arith)) ∙ ap (pass_over a.all l.held) e ∙ l.invariant)
    (λ h. (omega arith, omega arith))
