use Rattle.std.proofs.Common.{◌≡◌, sym, ap, ◌∙◌}
use Rattle.lang.specs.Records.{count, is_instruction}
use Rattle.lang.specs.Checks.{unless}
use Rattle.lang.proofs.Every.{every_none, every_more, every_fails}
use Rattle.program_checks.proofs.record_refusal.Goals as goal

pub loop-i-init : goal.loop-i-init
loop-i-init c = every_none (is_instruction c.args.instructions.now)

pub loop-i-preserved : goal.loop-i-preserved
loop-i-preserved c =
    every_more c.loop-i.i (is_instruction c.args.instructions.now) c.loop-i.invariant (sym c.is_instruction.ensures ∙ c.if-not-is_instruction.false)

pub returns-then-not-is_instruction : goal.returns-then-not-is_instruction
returns-then-not-is_instruction c =
    let s = c.args.instructions.now in
    ap (unless 2) (sym (every_fails (count s) c.loop-i.i (is_instruction s) c.loop-i-test.true (sym c.is_instruction.ensures ∙ c.if-not-is_instruction.true)))
