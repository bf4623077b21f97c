use mathlib.Core.Path.{◌≡◌, sym, ◌∙◌}
use Prim.Native.Nat.{◌+◌}
use native.Mathlib.Omega.{arith}
use lib.ListN.{length}
use Rattle.pl_blanks.proofs.Places.{passed_from, passed_none}
use Rattle.pl_chars.proofs.CharLaws.{name_more, name_other, name_short, name_all}
use Rattle.pl_chars.proofs.past_name.Goals as goal

pub returns-then-text-first : goal.returns-then-text-first
returns-then-text-first c =
    let a = c.args in
    let l = c.loop-k in
    passed_none _ (sym l.invariant.1 ∙ name_short a.text.now a.name.now (c.min-first.result + l.k) l.k c.loop-k-test.true c.if-text-first.true)

pub returns-then-upper_case-letter : goal.returns-then-upper_case-letter
returns-then-upper_case-letter c =
    let a = c.args in
    let l = c.loop-k in
    passed_none _
    (sym l.invariant.1 ∙ name_other a.text.now a.name.now (c.min-first.result + l.k) l.k c.loop-k-test.true c.if-text-first.false
    (λ s. c.if-upper_case-letter.true (c.upper_case.ensures ∙ s)))

pub loop-k-preserved : goal.loop-k-preserved
loop-k-preserved c =
    let a = c.args in
    let l = c.loop-k in
    let i = c.min-first.result + l.k in
    let e : c.min-first.result + (l.k + 1) ≡ i + 1 = omega arith in (
      omega arith,
      rw e (sym (name_more a.text.now a.name.now i l.k c.loop-k-test.true c.if-text-first.false (sym c.upper_case.ensures ∙ c.if-upper_case-letter.false))
          ∙ l.invariant.1),
    )

pub returns : goal.returns
returns c =
    let a = c.args in
    let n = a.name.now in
    let k : c.loop-k.k ≡ length n = omega arith in
    passed_from c.name_ends.result c.name_ends.ensures
    (sym (name_all a.text.now n (c.min-first.result + length n) (length n) (omega arith)) ∙ (rw k at c.loop-k.invariant.1))
    (λ h. (omega arith, omega arith))
