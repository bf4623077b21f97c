-- `c_word_write::write_next` meets its contract: what stands when the number is known, and the lists by it.
-- Assumes nothing.
use mathlib.Core.Path.{◌≡◌, ap₂, ◌∙◌}
use Rattle.lang.specs.Checks.{lower}
use Rattle.c_word_write.proofs.Laws.{Course, next_refused, next_taken, room_for_values}
use borrow.Author.Rules.{rules}
use Rattle.c_word_write.proofs.write_next.Statement.{statement}
use Rattle.c_word_write.proofs.write_next.Tie as tie

-- the places of the calls
abbrev kept_at : tie.After-items-1 → tie.After-keep_list
kept_at e = e.before

abbrev values-at : tie.After-items-1 → tie.After-zero_all-2
values-at e = e.before.before.before.before.before.before.before.before.before.before

abbrev next_at : tie.After-items-1 → tie.After-zero_all
next_at e = (values-at e).before.before.before.before

abbrev start : tie.After-items-1 → tie.Start
start e = (next_at e).before.before.before.before

course : (e : tie.After-items-1) →
    Course (start e).args.told (start e).args.next.now (start e).args.items.now (start e).args.values.now
    (next_at e).zero_all.new.s (values-at e).zero_all-2.new.s (kept_at e).keep_list.new.out e.lower_of-number.result
course e =
    record {
      zero_next = (next_at e).zero_all.ensures;
      zero_values = (values-at e).zero_all-2.ensures;
      number_is =
          e.lower_of-number.ensures
          ∙ ap₂ lower e.answer_refusal.ensures
          (e.lower_of-room.ensures
          ∙ ap₂ lower e.room_refusal.ensures
          e.room_refusal-2.ensures);
      kept_items_lem = (kept_at e).keep_list.ensures;
    }

zero-u32-requires : tie.Need-zero_all-requires
zero-u32-requires c κs = search rules

zero-u64-requires : tie.Need-zero_all-requires-2
zero-u64-requires c κs = search rules

room-refusal-requires : tie.Need-room_refusal-requires
room-refusal-requires c κs = search rules

room-refusal-requires-2 : tie.Need-room_refusal-requires-2
room-refusal-requires-2 c κs = search rules

lower-of-requires : tie.Need-lower_of-room-requires
lower-of-requires c κs = search rules

answer-refusal-requires : tie.Need-answer_refusal-requires
answer-refusal-requires c κs = search rules

lower-of-requires-2 : tie.Need-lower_of-number-requires
lower-of-requires-2 c κs = search rules

keep-i32-requires : tie.Need-keep_list-requires
keep-i32-requires c κs = search rules

same_length : tie.Need-shape_of-next-then-number-ne0
same_length c = search rules

same-length-2 : tie.Need-shape_of-items-then-number-ne0
same-length-2 c = search rules

same-length-3 : tie.Need-shape_of-values-then-number-ne0
same-length-3 c = search rules

returns : tie.Need-returns-then-number-ne0
returns c =
    let a = (start (c.before)).args in
    next_refused a.told a.next.now a.items.now a.values.now (next_at (c.before)).zero_all.new.s (values-at (c.before)).zero_all-2.new.s
    (kept_at (c.before)).keep_list.new.out c.lower_of-number.result (course (c.before)) c.if-number-ne0.true

put-letters-requires : tie.Need-put_letters-requires
put-letters-requires c κs = search rules

put-values-requires : tie.Need-put_values-requires
put-values-requires c κs =
    let a = (start (c.before.before.before.before.before.before.before)).args in
    room_for_values a.told a.next.now a.items.now a.values.now (next_at (c.before.before.before.before.before.before.before)).zero_all.new.s (values-at (c.before.before.before.before.before.before.before)).zero_all-2.new.s
    (kept_at (c.before.before.before.before.before.before.before)).keep_list.new.out c.lower_of-number.result (course (c.before.before.before.before.before.before.before)) c.if-number-ne0.false

same-length-4 : tie.Need-shape_of-next
same-length-4 c = search rules

same-length-5 : tie.Need-shape_of-items
same-length-5 c = search rules

same-length-6 : tie.Need-shape_of-values
same-length-6 c = search rules

returns-2 : tie.Need-returns
returns-2 c =
    let a = (start (c.before.before.before.before.before.before.before.before.before.before)).args in
    next_taken a.told a.next.now a.items.now a.values.now (next_at (c.before.before.before.before.before.before.before.before.before.before)).zero_all.new.s (values-at (c.before.before.before.before.before.before.before.before.before.before)).zero_all-2.new.s
    (kept_at (c.before.before.before.before.before.before.before.before.before.before)).keep_list.new.out c.lower_of-number.result (course (c.before.before.before.before.before.before.before.before.before.before)) c.if-number-ne0.false
    c.put_letters.ensures c.put_values.ensures

pub write_next_spec : {M : Type 1} → statement M
write_next_spec =
    tie.close
    (tie.spec
    zero-u32-requires
    zero-u64-requires
    room-refusal-requires
    room-refusal-requires-2
    lower-of-requires
    answer-refusal-requires
    lower-of-requires-2
    keep-i32-requires
    same_length
    same-length-2
    same-length-3
    returns
    put-letters-requires
    put-values-requires
    same-length-4
    same-length-5
    same-length-6
    returns-2)
