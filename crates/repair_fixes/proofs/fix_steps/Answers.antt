use Rattle.std.proofs.Common.{refl}
use Rattle.words.specs.Words.{word_of, number_of}
use Rattle.repairs.specs.Damaged.{program_by}
use Rattle.repair_fixes.specs.StepFixes.{FaultsAt}
use Rattle.repair_fixes.proofs.Whole.{fixes_none, fixes_more}
use Rattle.repair_fixes.proofs.fix_steps.Goals as goal

pub loop-i-init : goal.loop-i-init
loop-i-init c =
    let a = c.args in
    fixes_none
    (program_by a.instructions.now a.kerns.now (number_of (word_of a.boundary)) a.replacement a.existing.now a.marks.now a.passthrough.now)
    a.n a.fixed.now a.warnings.now

pub loop-i-preserved : goal.loop-i-preserved
loop-i-preserved c =
    let a = c.args in
    let p = program_by a.instructions.now a.kerns.now (number_of (word_of a.boundary)) a.replacement a.existing.now a.marks.now
    a.passthrough.now in
    let g : FaultsAt p a.instructions.now a.replacement c.faults-f.result c.loop-i.i =
    record { instructions = refl; replaced = refl; are = c.faults-f.ensures a.replacement } in
    fixes_more p c.loop-i.i c.loop-i.invariant (c.warn_step-at.ensures p g) (c.write_step.ensures p g)
