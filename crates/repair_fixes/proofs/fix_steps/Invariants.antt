use Rattle.repairs.specs.Damaged.{program_by}
use Rattle.repair_fixes.specs.StepFixes.{FixesUpto}
use Rattle.repair_fixes.proofs.fix_steps.Given as goal

-- the steps passed have been warned of and repaired
abbrev pub invariant-loop-i : goal.invariant-loop-i
invariant-loop-i l =
    FixesUpto (program_by l.instructions l.kerns l.boundary l.replacement l.existing l.marks l.passthrough) l.i l.n l.fn.fixed l.fn.warnings l.at
    l.fixed l.warnings
