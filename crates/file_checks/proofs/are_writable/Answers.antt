use Rattle.std.proofs.Common.{sym, ◌∙◌}
use Rattle.lang.specs.Records.{count}
use Rattle.lang.proofs.Every.{every_none, every_more, every_fails}
use Rattle.files.specs.Writing.{is_writable}
use Rattle.file_checks.proofs.are_writable.Goals as goal

pub loop-i-init : goal.loop-i-init
loop-i-init c = every_none (is_writable c.args.instructions.now c.args.kerns.now)

pub loop-i-preserved : goal.loop-i-preserved
loop-i-preserved c =
    let a = c.args in
    every_more c.loop-i.i (is_writable a.instructions.now a.kerns.now) c.loop-i.invariant (sym c.is_writable.ensures ∙ c.if-not-is_writable.false)

pub returns-then-not-is_writable : goal.returns-then-not-is_writable
returns-then-not-is_writable c =
    let a = c.args in
    sym (every_fails (count a.instructions.now) c.loop-i.i (is_writable a.instructions.now a.kerns.now) c.loop-i-test.true
    (sym c.is_writable.ensures ∙ c.if-not-is_writable.true))
