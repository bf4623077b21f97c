use Rattle.std.proofs.Common.{ℕ, ℤ, arith}
use Rattle.words.specs.Words.{word_of, number_of}
use Rattle.repairs.specs.Damaged.{program_by}
use Rattle.repairs.specs.Warnings.{skip_warnings}
use Rattle.repair_fixes.specs.StepFixes.{PushedUpTo}
use Rattle.repair_fixes.proofs.Pushes.{skip_pushed, skips_none, skips_more, at_end_lem}
use Rattle.repair_fixes.proofs.warn_skips.Goals as goal

pub loop-i-init : goal.loop-i-init
loop-i-init c =
    let a = c.args in
    λ m. skips_none
    (program_by a.instructions.now a.kerns.now (number_of (word_of a.boundary)) m a.existing.now a.marks.now a.passthrough.now)
    a.warnings.now a.n

pub loop-i-preserved : goal.loop-i-preserved
loop-i-preserved c =
    let a = c.args in
    λ m.
    let q = program_by a.instructions.now a.kerns.now (number_of (word_of a.boundary)) m a.existing.now a.marks.now a.passthrough.now in
    skips_more q c.loop-i.i (c.loop-i.invariant m)
    (skip_pushed q c.loop-i.i (c.faults-f.ensures m) (omega (arith, c.requires.0, c.loop-i-test.true))
    (omega (arith, c.requires.0, c.requires.1, c.loop-i-test.true, (c.loop-i.invariant m).most)) c.push_if-at.ensures)

pub returns : goal.returns
returns c = λ m.
    let a = c.args in
    at_end_lem
    (λ (b : ℤ) (k : ℕ). PushedUpTo k a.warnings.now a.n
    (skip_warnings (program_by a.instructions.now a.kerns.now b m a.existing.now a.marks.now a.passthrough.now) k)
    c.loop-i.warnings c.loop-i.at) a.boundary c.ranges.boundary
    c.loop-i.auto.i-end c.loop-i-test.false (c.loop-i.invariant m)
