use native.Mathlib.Omega.{arith}
use Rattle.lang.specs.Records.{count}
use Rattle.pl_write.proofs.Program.{program_none, program_labelled, program_plain, program_all, passed_none, passed_next}
use Rattle.pl_write.proofs.steps.put_steps.Goals as goal
use Rattle.pl_write.proofs.steps.put_steps.Goals.{then-i-label, else-i-label}

pub loop-i-init : goal.loop-i-init
loop-i-init c =
    let a = c.args in
    (program_none a.instructions.now a.kerns.now a.table.now c.min-next.ensures, c.next_label-label.ensures)

pub loop-i-preserved : goal.loop-i-preserved
loop-i-preserved c =
    let a = c.args in
    let s = a.instructions.now in
    let k = a.kerns.now in
    let t = a.table.now in
    let l = c.loop-i in
    let p = c.put_instruction-next.ensures in
    elim c.if-i-label.branch [
      | then-i-label w ↦ (
        program_labelled s k t l.i l.invariant.0 w.put_labels-next.ensures w.out-is w.next-is p,
        rw w.label-is w.next_label-label-then-i-label.ensures,
      )
      | else-i-label w ↦ (
        program_plain s k t l.i l.invariant.0 (passed_none t l.i l.label l.invariant.1 w.if-i-label.false) w.out-is w.next-is p,
        rw w.label-is (passed_next t l.i l.label l.invariant.1 w.if-i-label.false),
      )
    ]

pub returns : goal.returns
returns c =
    let a = c.args in
    program_all a.instructions.now a.kerns.now a.table.now c.loop-i.i (count a.instructions.now) (omega arith) c.loop-i.invariant.0
