-- `c_font_step_any::tell_step` meets its contract: proofs/Telling.
-- Assumes nothing.
use Rattle.c_steps.proofs.Stepping.{told_sets}
use Rattle.c_font_step_any.proofs.Telling.{step_refused, has_room, step_answered, step_taken}
use borrow.Author.Rules.{rules}
use Rattle.c_font_step_any.proofs.tell_step.Statement.{statement}
use Rattle.c_font_step_any.proofs.tell_step.Tie as tie

zero-all-requires : tie.Need-zero_all-requires
zero-all-requires c κs = search rules

refusal-of-requires : tie.Need-refusal_of-number-requires
refusal-of-requires c κs = search rules

room-refusal-requires : tie.Need-room_refusal-room-requires
room-refusal-requires c κs = search rules

lower-of-requires : tie.Need-lower_of-refusal-requires
lower-of-requires c κs = search rules

same_length : tie.Need-shape_of-item-then-refusal-ne0
same_length c = search rules

returns : tie.Need-returns-then-refusal-ne0
returns c =
    let a = c.args in
    step_refused a.stepped a.run.now a.item.now c.zero_all.new.s c.zero_all.ensures c.refusal_of-number.ensures c.room_refusal-room.ensures
    c.lower_of-refusal.ensures c.if-refusal-ne0.true

tell-requires : tie.Need-tell-requires
tell-requires c κs = search rules

put-run-requires : tie.Need-put_run-requires
put-run-requires c κs = search rules

same-length-2 : tie.Need-shape_of-run
same-length-2 c = search rules

same-length-3 : tie.Need-shape_of-item
same-length-3 c = search rules

returns-2 : tie.Need-returns
returns-2 c =
    let a = c.args in
    let e = step_answered a.stepped a.run.now a.item.now c.zero_all.new.s c.zero_all.ensures c.refusal_of-number.ensures
    c.room_refusal-room.ensures c.lower_of-refusal.ensures c.if-refusal-ne0.false in
    let h = has_room a.stepped a.run.now a.item.now c.zero_all.new.s c.zero_all.ensures c.refusal_of-number.ensures
    c.room_refusal-room.ensures c.lower_of-refusal.ensures c.if-refusal-ne0.false in
    step_taken a.stepped a.run.now a.item.now c.zero_all.new.s c.zero_all.ensures c.refusal_of-number.ensures c.room_refusal-room.ensures
    c.lower_of-refusal.ensures c.if-refusal-ne0.false (c.requires.1 e)
    (told_sets c.zero_all.new.s c.tell.new.item a.stepped.answer c.requires.0 h c.tell.ensures) c.put_run.ensures

pub tell_step_spec : {M : Type 1} → statement M
tell_step_spec =
    tie.close
    (tie.spec
    zero-all-requires
    refusal-of-requires
    room-refusal-requires
    lower-of-requires
    same_length
    returns
    tell-requires
    put-run-requires
    same-length-2
    same-length-3
    returns-2)
