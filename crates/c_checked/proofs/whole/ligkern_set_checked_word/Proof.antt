-- `c_checked::whole::ligkern_set_checked_word` meets its contract: SetWhole of c_captions/proofs.
-- Assumes nothing.
use mathlib.Core.Path.{ap, ◌∙◌}
use lib.IntN.{ℤ}
use lib.ListN.{length}
use Rattle.words.proofs.Bits.{number_word}
use Rattle.lang.specs.Checks.{lower}
use Rattle.word_set_checked.specs.Checked.{checked_word_reply}
use Rattle.c_states.specs.States.{options_of}
use Rattle.c_captions.proofs.SetWhole.{caption_set}
use borrow.Author.Rules.{rules}
use Rattle.c_checked.proofs.whole.ligkern_set_checked_word.Statement.{statement}
use Rattle.c_checked.proofs.whole.ligkern_set_checked_word.Tie as tie

room-refusal-requires : tie.Need-room_refusal-room-requires
room-refusal-requires c κs = search rules

set-checked-word-requires : tie.Need-set_checked_word-written-requires
set-checked-word-requires c κs = search rules

tell-requires : tie.Need-tell-requires
tell-requires c κs = search rules

lower-of-requires : tie.Need-lower_of-number-requires
lower-of-requires c κs = search rules

keep-list-requires : tie.Need-keep_list-requires
keep-list-requires c κs = search rules

same_length : tie.Need-shape_of-items
same_length c = search rules

same-length-2 : tie.Need-shape_of-count
same-length-2 c = search rules

returns : tie.Need-returns
returns c =
    let a = c.args in
    caption_set a.items.now a.count.now c.set_checked_word-written.result
    (λ (b o : ℤ). checked_word_reply a.pairs.now a.ops.now b a.word.now (options_of a.disable_left_boundary o) (length a.items.now))
    (number_word a.boundary c.ranges.boundary) (number_word a.right_boundary_override c.ranges.right_boundary_override)
    (record { answer = c.set_checked_word-written.ensures.answer; list = c.set_checked_word-written.ensures.list }) c.tell.ensures
    (c.lower_of-number.ensures ∙ ap (lower c.tell.result) c.room_refusal-room.ensures) c.set_checked_word-written.auto.items c.keep_list.ensures

pub ligkern_set_checked_word_spec : {M : Type 1} → statement M
ligkern_set_checked_word_spec =
    tie.close
    (tie.spec
    room-refusal-requires
    set-checked-word-requires
    tell-requires
    lower-of-requires
    keep-list-requires
    same_length
    same-length-2
    returns)
