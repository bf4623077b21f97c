use Rattle.std.proofs.Common.{sym, ◌∙◌, arith}
use Rattle.lang.specs.Records.{count, instruction_at}
use Rattle.program_chain.proofs.Walks.{step_on, step_end, walking_none, walking_room, walking_more, walking_all}
use Rattle.program_chain.proofs.write_chain.Goals as goal

pub loop-i-init : goal.loop-i-init
loop-i-init c = walking_none c.args.instructions.now c.args.entry c.args.out.now

pub bounds-out-n : goal.bounds-out-n
bounds-out-n c =
    let s = c.args.instructions.now in
    let step = step_on (count s) (instruction_at s) c.loop-i.at c.in-Some.i c.in-Some.on (sym c.next_instruction.ensures ∙ c.in-Some.is) in
    walking_room step c.loop-i.invariant c.requires.1

pub overflow_cast-out : goal.overflow_cast-out
overflow_cast-out c =
    let s = c.args.instructions.now in
    let step = step_on (count s) (instruction_at s) c.loop-i.at c.in-Some.i c.in-Some.on (sym c.next_instruction.ensures ∙ c.in-Some.is) in
    omega (arith, step.here, step.inside)

pub loop-i-preserved : goal.loop-i-preserved
loop-i-preserved c =
    let s = c.args.instructions.now in
    let step = step_on (count s) (instruction_at s) c.loop-i.at c.in-Some.i c.in-Some.on (sym c.next_instruction.ensures ∙ c.in-Some.is) in
    walking_more step c.loop-i.invariant (walking_room step c.loop-i.invariant c.requires.1)

pub loop-i-smaller : goal.loop-i-smaller
loop-i-smaller c =
    let s = c.args.instructions.now in
    let step = step_on (count s) (instruction_at s) c.loop-i.at c.in-Some.i c.in-Some.on (sym c.next_instruction.ensures ∙ c.in-Some.is) in
    omega (arith, step.inside, step.ahead)

pub returns-in_default : goal.returns-in_default
returns-in_default c =
    let s = c.args.instructions.now in
    walking_all c.loop-i.invariant (step_end (count s) (instruction_at s) c.loop-i.at (sym c.next_instruction.ensures ∙ c.in_default.is))
