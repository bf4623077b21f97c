use mathlib.Core.Path.{sym, ◌∙◌}
use Rattle.lang.specs.Records.{count}
use Rattle.lang.proofs.Every.{every_none, every_more, every_fails}
use Rattle.property_lists.specs.Displays.{instruction_shown}
use Rattle.pl_write_refusals.proofs.instructions_shown.Goals as goal

pub loop-i-init : goal.loop-i-init
loop-i-init c = every_none (instruction_shown c.args.instructions.now c.args.kerns)

pub loop-i-preserved : goal.loop-i-preserved
loop-i-preserved c =
    every_more c.loop-i.i (instruction_shown c.args.instructions.now c.args.kerns) c.loop-i.invariant
    (sym c.is_instruction_shown.ensures ∙ c.if-not-is_instruction_shown.false)

pub returns-then-not-is_instruction_shown : goal.returns-then-not-is_instruction_shown
returns-then-not-is_instruction_shown c =
    let s = c.args.instructions.now in
    sym (every_fails (count s) c.loop-i.i (instruction_shown s c.args.kerns) c.loop-i-test.true
    (sym c.is_instruction_shown.ensures ∙ c.if-not-is_instruction_shown.true))
