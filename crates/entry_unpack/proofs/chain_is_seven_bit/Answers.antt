use Rattle.std.proofs.Common.{sym, ◌∙◌, arith}
use Rattle.lang.specs.Records.{count, instruction_at}
use Rattle.program_chain.proofs.Walks.{step_on, step_end}
use Rattle.entry_unpack.proofs.Unpacking.{sevens_end, sevens_fail, sevens_more}
use Rattle.entry_unpack.proofs.chain_is_seven_bit.Goals as goal

pub loop-i-preserved : goal.loop-i-preserved
loop-i-preserved c =
    let s = c.args.instructions.now in
    let step = step_on (count s) (instruction_at s) c.loop-i.at c.in-Some.i c.in-Some.on (sym c.next_instruction.ensures ∙ c.in-Some.is) in
    sevens_more s c.args.entry c.loop-i.at c.loop-i.invariant step c.inserts_seven_bit.ensures c.if-not-inserts_seven_bit.false

pub loop-i-smaller : goal.loop-i-smaller
loop-i-smaller c =
    let s = c.args.instructions.now in
    let step = step_on (count s) (instruction_at s) c.loop-i.at c.in-Some.i c.in-Some.on (sym c.next_instruction.ensures ∙ c.in-Some.is) in
    omega (arith, step.inside, step.ahead)

pub returns-in_default : goal.returns-in_default
returns-in_default c =
    let s = c.args.instructions.now in
    sevens_end s c.args.entry c.loop-i.at c.loop-i.invariant
    (step_end (count s) (instruction_at s) c.loop-i.at (sym c.next_instruction.ensures ∙ c.in_default.is))

pub returns-then-not-inserts_seven_bit : goal.returns-then-not-inserts_seven_bit
returns-then-not-inserts_seven_bit c =
    let s = c.args.instructions.now in
    let step = step_on (count s) (instruction_at s) c.loop-i.at c.in-Some.i c.in-Some.on (sym c.next_instruction.ensures ∙ c.in-Some.is) in
    sevens_fail s c.args.entry c.loop-i.at c.loop-i.invariant step c.inserts_seven_bit.ensures c.if-not-inserts_seven_bit.true
