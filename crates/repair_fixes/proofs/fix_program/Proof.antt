-- `repair_fixes::fix_program` meets its contract. A program that is not fixable is left; else the warnings of skips are pushed, and after them those of steps.
-- Assumes nothing.
use mathlib.Core.Path.{◌≡◌, sym, ◌∙◌}
use mathlib.Core.Bool.{true}
use Prim.Native.Nat.{◌≤◌}
use native.Mathlib.Omega.{arith}
use lib.Dec.{leb}
use borrow.Author.Rules.{rules}
use borrow.Author.Tests.{leb-true, not-true, not-false}
use Rattle.lang.specs.Every.{both}
use Rattle.lang.specs.Records.{count}
use Rattle.lang.proofs.Every.{both_left, both_right}
use Rattle.repairs.specs.Damaged.{program_by}
use Rattle.repair_fixes.proofs.Whole.{untouched, fixes_whole}
use Rattle.repair_fixes.proofs.fix_program.Statement.{statement}
use Rattle.repair_fixes.proofs.fix_program.Tie as tie

-- the test is passed
abbrev start : tie.Else-not-is_fixable → tie.Start
start c = c.before.before.before.before

limits : (c : tie.Else-not-is_fixable) → let a = (start c).args in (count a.instructions.now ≤ 32767) × (a.replacement ≤ 255) × (a.n ≤ 65535)
limits c =
    let a = (start c).args in
    let h : both (leb (count a.instructions.now) 32767) (both (leb a.replacement 255) (leb a.n 65535))
    ≡ true = sym c.is_fixable.ensures ∙ c.if-not-is_fixable.false in
    let l = both_right (leb (count a.instructions.now) 32767) _ h in (
      leb-true _ 32767 (both_left (leb (count a.instructions.now) 32767) _ h),
      leb-true a.replacement 255 (both_left (leb a.replacement 255) _ l),
      leb-true a.n 65535 (both_right (leb a.replacement 255) _ l),
    )

is-fixable-requires : tie.Need-is_fixable-requires
is-fixable-requires c κs = search rules

returns : tie.Need-returns-then-not-is_fixable
returns c =
    let a = c.args in
    untouched
    (program_by a.instructions.now a.kerns.now a.boundary a.replacement a.existing.now a.marks.now a.passthrough.now) a.n
    a.fixed.now a.warnings.now (sym c.is_fixable.ensures ∙ c.if-not-is_fixable.true)

warn-skips-requires : tie.Need-warn_skips-skipped-requires
warn-skips-requires c κs = let h = limits c.before in (h.0, omega (arith, h.2))

fix-steps-requires : tie.Need-fix_steps-requires
fix-steps-requires c κs =
    let h = limits c.before.before.before.before.before in (h.0, omega (arith, h.1), omega (arith, h.0, h.2, (c.warn_skips-skipped.ensures 0).most))

same_length : tie.Need-shape_of-fixed
same_length c = search rules

same-length-2 : tie.Need-shape_of-warnings
same-length-2 c = search rules

returns-2 : tie.Need-returns
returns-2 c =
    let s = start (c.before.before.before.before.before.before.before.before) in
    let a = s.args in
    fixes_whole a.instructions.now a.kerns.now a.boundary a.replacement a.existing.now a.marks.now a.passthrough.now
    s.ranges.boundary (sym c.is_fixable.ensures ∙ c.if-not-is_fixable.false) (c.warn_skips-skipped.ensures a.replacement) c.fix_steps.ensures

pub fix_program_spec : {M : Type 1} → statement M
fix_program_spec =
    tie.close
    (tie.spec
    is-fixable-requires
    returns
    warn-skips-requires
    fix-steps-requires
    same_length
    same-length-2
    returns-2)
