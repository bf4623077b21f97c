use Rattle.std.proofs.Common.{ℕ}
use Rattle.repairs.specs.Damaged.{program_by}
use Rattle.repairs.specs.Warnings.{skip_warnings}
use Rattle.repair_fixes.specs.StepFixes.{PushedUpTo}
use Rattle.repair_fixes.proofs.warn_skips.Given as goal

-- the warnings of the steps passed have been pushed
abbrev pub invariant-loop-i : goal.invariant-loop-i
invariant-loop-i l =
    (m : ℕ) →
    PushedUpTo l.i l.fn.warnings l.n (skip_warnings (program_by l.instructions l.kerns l.boundary m l.existing l.marks l.passthrough) l.i) l.warnings l.at
