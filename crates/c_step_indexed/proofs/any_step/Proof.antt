-- `c_step_indexed::any_step` meets its contract: Stepping of this crate and of c_steps.
-- Assumes nothing.
use mathlib.Core.Path.{◌≡◌, ap, ◌∙◌}
use native.Mathlib.Omega.{arith}
use Rattle.words.specs.Words.{word_of, number_of}
use Rattle.words.proofs.Bits.{number_word}
use Rattle.lang.specs.Checks.{lower}
use Rattle.index_step.specs.Indexed.{indexed_step_of}
use Rattle.index_step.proofs.Laws.{answered_is}
use Rattle.c_states.specs.States.{state_read}
use Rattle.c_step_indexed.specs.Indexed.{indexed_step_in}
use Rattle.c_steps.proofs.Stepping.{told_sets, steps_refused, steps_short, steps_taken}
use Rattle.c_step_indexed.proofs.Stepping.{indexed_from, indexed_long, indexed_given_small}
use borrow.Author.Rules.{rules}
use Rattle.c_step_indexed.proofs.any_step.Statement.{statement}
use Rattle.c_step_indexed.proofs.any_step.Tie as tie

-- the step is handed the state that stands in the list, and the boundary character as it was lent
stepped : (c : tie.After-step_indexed-stepped) → let a = c.args in
    c.step_indexed-stepped.result ≡ indexed_step_in a.index.now a.pairs.now a.ops.now a.boundary a.word.now a.options a.state.now
stepped c =
    let a = c.args in
    answered_is a.index.now a.pairs.now a.ops.now (number_of (word_of a.boundary)) a.word.now a.options c.state_in-from.result
    c.step_indexed-stepped.ensures
    ∙ (λ j. indexed_step_of a.index.now a.pairs.now a.ops.now (number_word a.boundary c.ranges.boundary j) a.word.now a.options
    (c.state_in-from.ensures j))
    ∙ indexed_from a.index.now a.pairs.now a.ops.now a.boundary a.word.now a.options (state_read a.state.now)

zero-all-requires : tie.Need-zero_all-requires
zero-all-requires c κs = search rules

state-in-requires : tie.Need-state_in-from-requires
state-in-requires c κs = search rules

step-indexed-requires : tie.Need-step_indexed-stepped-requires
step-indexed-requires c κs = search rules

refusal-of-requires : tie.Need-refusal_of-number-requires
refusal-of-requires c κs = search rules

room-refusal-requires : tie.Need-room_refusal-requires
room-refusal-requires c κs = search rules

lower-of-requires : tie.Need-lower_of-requires
lower-of-requires c κs = search rules

same_length : tie.Need-shape_of-state-then-number-ne0
same_length c = search rules

same-length-2 : tie.Need-shape_of-item-then-number-ne0
same-length-2 c = search rules

returns : tie.Need-returns-then-number-ne0
returns c =
    let a = c.args in
    steps_refused a.state.now a.item.now c.zero_all.new.s c.zero_all.ensures
    (indexed_step_in a.index.now a.pairs.now a.ops.now a.boundary a.word.now a.options a.state.now) c.step_indexed-stepped.result
    (stepped (c.before.before.before.before)) c.refusal_of-number.result c.refusal_of-number.ensures c.if-number-ne0.true c.lower_of.result
    (c.lower_of.ensures ∙ ap (lower c.refusal_of-number.result) c.room_refusal.ensures)

same-length-3 : tie.Need-shape_of-state-then-item-lt7
same-length-3 c = search rules

same-length-4 : tie.Need-shape_of-item-then-item-lt7
same-length-4 c = search rules

returns-2 : tie.Need-returns-then-item-lt7
returns-2 c =
    let a = c.args in
    steps_short a.state.now a.item.now c.zero_all.new.s c.zero_all.ensures
    (indexed_step_in a.index.now a.pairs.now a.ops.now a.boundary a.word.now a.options a.state.now) c.step_indexed-stepped.result
    (stepped (c.before.before.before)) c.refusal_of-number.result c.refusal_of-number.ensures c.if-number-ne0.false (omega (arith, c.if-item-lt7.true))

tell-requires : tie.Need-tell-requires
tell-requires c κs = search rules

put-state-requires : tie.Need-put_state-requires
put-state-requires c κs = search rules

same-length-5 : tie.Need-shape_of-state
same-length-5 c = search rules

same-length-6 : tie.Need-shape_of-item
same-length-6 c = search rules

returns-3 : tie.Need-returns
returns-3 c =
    let a = c.args in
    steps_taken a.state.now a.item.now c.zero_all.new.s c.zero_all.ensures
    (indexed_step_in a.index.now a.pairs.now a.ops.now a.boundary a.word.now a.options a.state.now) c.step_indexed-stepped.result
    (stepped (c.before.before.before.before.before.before.before.before.before.before.before)) c.refusal_of-number.result c.refusal_of-number.ensures c.if-number-ne0.false
    (indexed_long a.index.now a.pairs.now a.ops.now a.boundary a.word.now a.options a.state.now) c.if-item-lt7.false c.tell.new.item
    (told_sets c.zero_all.new.s c.tell.new.item c.step_indexed-stepped.result.answer
    (indexed_given_small a.index.now a.pairs.now a.ops.now a.boundary a.word.now a.options a.state.now c.step_indexed-stepped.result
    (stepped (c.before.before.before.before.before.before.before.before.before.before.before))) c.if-item-lt7.false
    c.tell.ensures) c.put_state.result
    c.put_state.new.list c.put_state.ensures

pub any_step_spec : {M : Type 1} → statement M
any_step_spec =
    tie.close
    (tie.spec
    zero-all-requires
    state-in-requires
    step-indexed-requires
    refusal-of-requires
    room-refusal-requires
    lower-of-requires
    same_length
    same-length-2
    returns
    same-length-3
    same-length-4
    returns-2
    tell-requires
    put-state-requires
    same-length-5
    same-length-6
    returns-3)
