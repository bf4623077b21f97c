use Rattle.std.proofs.Common.{sym, ◌∙◌, arith}
use Rattle.lang.specs.Records.{count, instruction_at}
use Rattle.program_chain.proofs.Walks.{step_on, step_end, rule_here, rule_later, rule_nowhere}
use Rattle.program_chain.proofs.rule_index.Goals as goal

pub loop-i-preserved : goal.loop-i-preserved
loop-i-preserved c =
    let s = c.args.instructions.now in
    let step = step_on (count s) (instruction_at s) c.loop-i.at c.in-Some.i c.in-Some.on (sym c.next_instruction.ensures ∙ c.in-Some.is) in
    rule_later (count s) (instruction_at s) c.args.right c.args.entry c.loop-i.at c.in-Some.i c.in-Some.on step c.loop-i.invariant
    (sym c.is_rule_for.ensures ∙ c.if-is_rule_for.false)

pub loop-i-smaller : goal.loop-i-smaller
loop-i-smaller c =
    let s = c.args.instructions.now in
    let step = step_on (count s) (instruction_at s) c.loop-i.at c.in-Some.i c.in-Some.on (sym c.next_instruction.ensures ∙ c.in-Some.is) in
    omega (arith, step.inside, step.ahead)

pub returns-in_default : goal.returns-in_default
returns-in_default c =
    let s = c.args.instructions.now in
    rule_nowhere (count s) (instruction_at s) c.args.right c.args.entry c.loop-i.at
    (step_end (count s) (instruction_at s) c.loop-i.at (sym c.next_instruction.ensures ∙ c.in_default.is)) c.loop-i.invariant

pub returns-then-is_rule_for : goal.returns-then-is_rule_for
returns-then-is_rule_for c =
    let s = c.args.instructions.now in
    let step = step_on (count s) (instruction_at s) c.loop-i.at c.in-Some.i c.in-Some.on (sym c.next_instruction.ensures ∙ c.in-Some.is) in
    rule_here (count s) (instruction_at s) c.args.right c.args.entry c.loop-i.at c.in-Some.i c.in-Some.on step c.loop-i.invariant
    (sym c.is_rule_for.ensures ∙ c.if-is_rule_for.true)
