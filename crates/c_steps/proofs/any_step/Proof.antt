-- `c_steps::any_step` meets its contract: a last kern by proofs/Told, and every other step by proofs/Stepping.
-- Assumes nothing.
use mathlib.Core.Path.{◌≡◌, subst, ap, ◌∙◌}
use lib.IntN.{ℤ}
use native.Mathlib.Omega.{arith}
use Rattle.words.specs.Words.{word_of, number_of}
use Rattle.words.proofs.Bits.{number_word}
use Rattle.lang.specs.Checks.{lower}
use Rattle.captions.specs.Steps.{step_of}
use Rattle.c_states.specs.States.{state_read}
use Rattle.c_steps.specs.Step.{step_in, StepsRun}
use Rattle.c_steps.proofs.Stepping.{told_sets, from_is, given_long, given_small, steps_refused, steps_short, steps_taken}
use Rattle.c_steps.proofs.Told.{told_at_once, kern_item_lem, kern_given}
use borrow.Author.Rules.{rules}
use Rattle.c_steps.proofs.any_step.Statement.{statement}
use Rattle.c_steps.proofs.any_step.Tie as tie

-- the step is handed the state that stands in the list, and the boundary character as it was lent
abbrev entered : tie.After-zero_all → tie.After-state_in-from
entered z = z.before.before.before.before

abbrev start : tie.After-state_in-from → tie.Start
start e = e.before.before.before

stepped : (c : tie.After-kern_step-stepped) → let a = (start (entered c.before.before)).args in
    c.kern_step-stepped.result ≡ step_in a.pairs.now a.ops.now a.boundary a.word.now a.options a.state.now
stepped c =
    let e = entered c.before.before in
    let s = start e in
    let a = s.args in
    c.kern_step-stepped.ensures
    ∙ (λ j. step_of a.pairs.now a.ops.now (number_word a.boundary s.ranges.boundary j) a.word.now a.options (e.state_in-from.ensures j))
    ∙ from_is a.pairs.now a.ops.now a.boundary a.word.now a.options (state_read a.state.now)

state-in-requires : tie.Need-state_in-from-requires
state-in-requires c κs = search rules

is-kern-requires : tie.Need-is_kern-requires
is-kern-requires c κs = search rules

give-kern-requires : tie.Need-give_kern-kerned-requires
give-kern-requires c κs = search rules

tell-requires : tie.Need-tell-requires
tell-requires c κs = search rules

put-state-requires : tie.Need-put_state-requires
put-state-requires c κs = search rules

same_length : tie.Need-shape_of-state-then-item-eq7
same_length c = search rules

same-length-2 : tie.Need-shape_of-item-then-item-eq7
same-length-2 c = search rules

returns : tie.Need-returns-then-item-eq7
returns c =
    let s = start (c.before.before.before.before.before.before.before.before.before.before.before.before) in
    let a = s.args in
    let b = number_of (word_of a.boundary) in
    let given = step_in a.pairs.now a.ops.now b a.word.now a.options a.state.now in
    let yes = c.if-is_kern.true in
    let t : c.give_kern-kerned.result ≡ given =
    kern_given a.ops.now b a.word.now a.options c.state_in-from.result c.is_kern.ensures yes c.give_kern-kerned.ensures a.pairs.now
    a.state.now c.state_in-from.ensures in
    subst (λ (n : ℤ). StepsRun a.pairs.now a.ops.now n a.word.now a.options a.state.now a.item.now c.put_state.result
    c.put_state.new.list c.tell.new.item) (number_word a.boundary s.ranges.boundary)
    (told_at_once a.state.now a.item.now given c.give_kern-kerned.result t
    (kern_item_lem a.ops.now b a.word.now a.options c.state_in-from.result c.is_kern.ensures yes c.give_kern-kerned.ensures)
    (given_long a.pairs.now a.ops.now b a.word.now a.options a.state.now) c.if-item-eq7.true c.tell.new.item
    (told_sets a.item.now c.tell.new.item c.give_kern-kerned.result.answer
    (given_small a.pairs.now a.ops.now b a.word.now a.options a.state.now c.give_kern-kerned.result t)
    (omega (arith, c.if-item-eq7.true)) c.tell.ensures)
    c.put_state.result c.put_state.new.list c.put_state.ensures)

zero-all-requires : tie.Need-zero_all-requires
zero-all-requires c κs = search rules

kern-step-requires : tie.Need-kern_step-stepped-requires
kern-step-requires c κs = search rules

refusal-of-requires : tie.Need-refusal_of-number-requires
refusal-of-requires c κs = search rules

room-refusal-requires : tie.Need-room_refusal-requires
room-refusal-requires c κs = search rules

lower-of-requires : tie.Need-lower_of-requires
lower-of-requires c κs = search rules

same-length-3 : tie.Need-shape_of-state-then-number-ne0
same-length-3 c = search rules

same-length-4 : tie.Need-shape_of-item-then-number-ne0
same-length-4 c = search rules

returns-2 : tie.Need-returns-then-number-ne0
returns-2 c =
    let a = (start (entered c.before.before.before.before.before.before)).args in
    steps_refused a.state.now a.item.now c.zero_all.new.s c.zero_all.ensures
    (step_in a.pairs.now a.ops.now a.boundary a.word.now a.options a.state.now) c.kern_step-stepped.result (stepped (c.before.before.before.before)) c.refusal_of-number.result
    c.refusal_of-number.ensures c.if-number-ne0.true c.lower_of.result
    (c.lower_of.ensures ∙ ap (lower c.refusal_of-number.result) c.room_refusal.ensures)

same-length-5 : tie.Need-shape_of-state-then-item-lt7
same-length-5 c = search rules

same-length-6 : tie.Need-shape_of-item-then-item-lt7
same-length-6 c = search rules

returns-3 : tie.Need-returns-then-item-lt7
returns-3 c =
    let a = (start (entered c.before.before.before.before.before)).args in
    steps_short a.state.now a.item.now c.zero_all.new.s c.zero_all.ensures
    (step_in a.pairs.now a.ops.now a.boundary a.word.now a.options a.state.now) c.kern_step-stepped.result (stepped (c.before.before.before)) c.refusal_of-number.result
    c.refusal_of-number.ensures c.if-number-ne0.false (omega (arith, c.if-item-lt7.true))

tell-requires-2 : tie.Need-tell-requires-2
tell-requires-2 c κs = search rules

put-state-requires-2 : tie.Need-put_state-requires-2
put-state-requires-2 c κs = search rules

same-length-7 : tie.Need-shape_of-state
same-length-7 c = search rules

same-length-8 : tie.Need-shape_of-item
same-length-8 c = search rules

returns-4 : tie.Need-returns
returns-4 c =
    let a = (start (entered c.before.before.before.before.before.before.before.before.before.before.before.before.before)).args in
    steps_taken a.state.now a.item.now c.zero_all.new.s c.zero_all.ensures
    (step_in a.pairs.now a.ops.now a.boundary a.word.now a.options a.state.now) c.kern_step-stepped.result (stepped (c.before.before.before.before.before.before.before.before.before.before.before)) c.refusal_of-number.result
    c.refusal_of-number.ensures c.if-number-ne0.false
    (given_long a.pairs.now a.ops.now a.boundary a.word.now a.options a.state.now) c.if-item-lt7.false c.tell-2.new.item
    (told_sets c.zero_all.new.s c.tell-2.new.item c.kern_step-stepped.result.answer
    (given_small a.pairs.now a.ops.now a.boundary a.word.now a.options a.state.now c.kern_step-stepped.result (stepped (c.before.before.before.before.before.before.before.before.before.before.before))) c.if-item-lt7.false
    c.tell-2.ensures) c.put_state-2.result
    c.put_state-2.new.list c.put_state-2.ensures

pub any_step_spec : {M : Type 1} → statement M
any_step_spec =
    tie.close
    (tie.spec
    state-in-requires
    is-kern-requires
    give-kern-requires
    tell-requires
    put-state-requires
    same_length
    same-length-2
    returns
    zero-all-requires
    kern-step-requires
    refusal-of-requires
    room-refusal-requires
    lower-of-requires
    same-length-3
    same-length-4
    returns-2
    same-length-5
    same-length-6
    returns-3
    tell-requires-2
    put-state-requires-2
    same-length-7
    same-length-8
    returns-4)
