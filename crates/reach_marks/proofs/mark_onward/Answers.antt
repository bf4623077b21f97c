-- Below the count a step of a walk is no end, and goes where the definition says.
use Rattle.std.proofs.Common.{sym, ◌∙◌}
use Rattle.lang.specs.Records.{count, instruction_at}
use Rattle.reach_marks.proofs.Marks.{pass_bare, pass_marked, step_ends, step_onward}
use Rattle.reach_marks.proofs.mark_onward.Goals as goal

pub returns-then-item_at-eq0 : goal.returns-then-item_at-eq0
returns-then-item_at-eq0 c = pass_bare c.args.instructions.now c.args.marks.now c.args.i (sym c.item_at.ensures ∙ c.if-item_at-eq0.true)

pub returns-in_default : goal.returns-in_default
returns-in_default c =
    let s = c.args.instructions.now in
    absurd (step_ends (count s) (instruction_at s) c.args.i c.next_instruction.result c.requires c.next_instruction.ensures c.in_default.is)

pub returns : goal.returns
returns c =
    let s = c.args.instructions.now in
    pass_marked s c.args.marks.now c.put_item.new.s c.args.i c.in-Some.on (λ e. c.if-item_at-eq0.false (c.item_at.ensures ∙ e))
    (step_onward (count s) (instruction_at s) c.args.i c.in-Some.field-0-0 c.in-Some.on c.next_instruction.result c.requires
    c.next_instruction.ensures c.in-Some.is) c.put_item.ensures
