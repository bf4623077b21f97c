use mathlib.Core.Path.{sym, ◌∙◌}
use native.Mathlib.Omega.{arith}
use Rattle.pl_blanks.proofs.Places.{passed_at, passed_none}
use Rattle.pl_chars.proofs.CharLaws.{comment_closed, comment_close, comment_open, comment_more, comment_end}
use Rattle.pl_chars.proofs.past_comment.Goals as goal
use Rattle.pl_chars.proofs.past_comment.Goals.{then-b-eq41+else-depth-eq0, else-b-eq41+then-b-eq40, else-b-eq41+else-b-eq40}

pub returns-then-depth-eq0 : goal.returns-then-depth-eq0
returns-then-depth-eq0 c =
    let l = c.loop-i in
    passed_at _ (sym l.invariant.1 ∙ comment_closed c.args.text.now l.i l.depth c.loop-i-test.true c.if-b-eq41.true c.if-depth-eq0.true)
    (λ h. omega arith) (omega arith)

pub loop-i-preserved : goal.loop-i-preserved
loop-i-preserved c =
    let l = c.loop-i in
    let t = c.args.text.now in
    elim c.if-b-eq41.branch [
      | then-b-eq41+else-depth-eq0 w ↦
          (omega arith, rw w.depth-is (sym (comment_close t l.i l.depth c.loop-i-test.true w.if-b-eq41.true w.if-depth-eq0.false) ∙ l.invariant.1))
      | else-b-eq41+then-b-eq40 w ↦
          (omega arith, rw w.depth-is (sym (comment_open t l.i l.depth c.loop-i-test.true w.if-b-eq40.true) ∙ l.invariant.1))
      | else-b-eq41+else-b-eq40 w ↦
          (omega arith, rw w.depth-is (sym (comment_more t l.i l.depth c.loop-i-test.true w.if-b-eq41.false w.if-b-eq40.false) ∙ l.invariant.1))
    ]

pub returns : goal.returns
returns c = passed_none _ (sym c.loop-i.invariant.1 ∙ comment_end c.args.text.now c.loop-i.i c.loop-i.depth c.loop-i-test.false)
