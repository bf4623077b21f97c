use Rattle.std.proofs.Common.{length, sym, ap, ◌∙◌, arith}
use Rattle.lang.specs.Records.{count, instruction_at}
use Rattle.program_chain.proofs.Walks.{step_on, step_end, length_chain}
use Rattle.program_chain.proofs.chain_length.Goals as goal

pub loop-on-preserved : goal.loop-on-preserved
loop-on-preserved c =
    let s = c.args.instructions.now in
    let step = step_on (count s) (instruction_at s) c.loop-on.at c.in-Some.field-0-0 c.in-Some.on (sym c.next_instruction.ensures ∙ c.in-Some.is) in
    omega (arith, c.loop-on.invariant, ap length step.rest)

pub loop-on-smaller : goal.loop-on-smaller
loop-on-smaller c =
    let s = c.args.instructions.now in
    let step = step_on (count s) (instruction_at s) c.loop-on.at c.in-Some.field-0-0 c.in-Some.on (sym c.next_instruction.ensures ∙ c.in-Some.is) in
    omega (arith, step.inside, step.ahead)

pub overflow_add-n : goal.overflow_add-n
overflow_add-n c =
    let s = c.args.instructions.now in
    let step = step_on (count s) (instruction_at s) c.loop-on.at c.in-Some.field-0-0 c.in-Some.on (sym c.next_instruction.ensures ∙ c.in-Some.is) in
    omega (arith, c.loop-on.invariant, ap length step.rest, length_chain (count s) (count s) (instruction_at s) c.args.entry)

pub returns-in_default : goal.returns-in_default
returns-in_default c =
    let s = c.args.instructions.now in
    omega (arith, c.loop-on.invariant, ap length (step_end (count s) (instruction_at s) c.loop-on.at (sym c.next_instruction.ensures ∙ c.in_default.is)))
