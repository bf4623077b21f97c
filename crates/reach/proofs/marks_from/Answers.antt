use Rattle.std.proofs.Common.{◌≡◌, ◌+◌, ◌-◌, ◌<◌, ◌∙◌, get_or, take, drop, arith}
use lib.Seq.{get_or-take, get_or-drop}
use Rattle.reach.proofs.Numbers.{counted_none, counted_marked, counted_bare, counted_few}
use Rattle.reach.proofs.marks_from.Goals as goal
use Rattle.reach.proofs.marks_from.Goals.{then-mark-ne0, else-mark-ne0}

pub loop-mark-init : goal.loop-mark-init
loop-mark-init c = counted_none c.args.marks.now c.args.i

pub overflow_add-found : goal.overflow_add-found
overflow_add-found c =
    omega (arith, c.ranges.k.fits, c.loop-mark.invariant, counted_few c.args.marks.now c.args.i c.loop-mark.mark-index)

pub loop-mark-preserved : goal.loop-mark-preserved
loop-mark-preserved c =
    let a = c.args in
    let j = c.loop-mark.mark-index in
    let h : j < a.i + a.k - a.i = omega arith in
    let e : get_or (take (a.i + a.k - a.i) (drop a.i a.marks.now)) j 0 ≡ get_or a.marks.now (a.i + j) 0 =
    get_or-take (a.i + a.k - a.i) (drop a.i a.marks.now) j 0 h ∙ get_or-drop a.i a.marks.now j 0 in
    let v = c.loop-mark.invariant in
    elim c.if-mark-ne0.branch [
      | then-mark-ne0 w ↦ w.found-is ∙ counted_marked a.marks.now a.i j c.loop-mark.found v (rw e at w.if-mark-ne0.true)
      | else-mark-ne0 w ↦ w.found-is ∙ counted_bare a.marks.now a.i j c.loop-mark.found v (rw e at w.if-mark-ne0.false)
    ]
