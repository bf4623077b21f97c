-- `c_steps::ligkern_step` meets its contract: a quick step by proofs/Told, and every other one by any_step.
-- Assumes nothing.
use mathlib.Core.Path.{◌≡◌, sym, subst, ◌∙◌}
use mathlib.Core.Bool.{true}
use mathlib.Core.List.{List}
use Prim.Native.Nat.{ℕ}
use lib.IntN.{ℤ}
use Rattle.words.specs.Words.{word_of, number_of}
use Rattle.words.proofs.Bits.{number_word}
use borrow.Author.Tests.{not-false}
use Rattle.step_quick.specs.Quick.{is_ready}
use Rattle.c_states.specs.States.{options_of}
use Rattle.c_steps.specs.Step.{StepsRun}
use Rattle.c_steps.proofs.Told.{told_asks, steps_told}
use borrow.Author.Rules.{rules}
use Rattle.c_steps.proofs.ligkern_step.Statement.{statement}
use Rattle.c_steps.proofs.ligkern_step.Tie as tie

-- what is said of the bits of the boundary character and the override, which are passed on, is said of them as they were lent
as_lent : (c : tie.Start) {r : ℕ} {state' : List ℕ} {item' : List ℤ} → let a = c.args in
    StepsRun a.pairs.now a.ops.now (number_of (word_of a.boundary)) a.word.now
    (options_of a.disable_left_boundary (number_of (word_of a.right_boundary_override))) a.state.now a.item.now r state' item' →
    StepsRun a.pairs.now a.ops.now a.boundary a.word.now (options_of a.disable_left_boundary a.right_boundary_override)
    a.state.now a.item.now r state' item'
as_lent c {r} {state'} {item'} h =
    let a = c.args in
    subst (λ (b : ℤ). StepsRun a.pairs.now a.ops.now b a.word.now (options_of a.disable_left_boundary a.right_boundary_override)
    a.state.now a.item.now r state' item') (number_word a.boundary c.ranges.boundary)
    (subst (λ (o : ℤ). StepsRun a.pairs.now a.ops.now (number_of (word_of a.boundary)) a.word.now (options_of a.disable_left_boundary o)
    a.state.now a.item.now r state' item') (number_word a.right_boundary_override c.ranges.right_boundary_override) h)

-- the entry can be read
ready : (q : tie.After-quick_step-stepped) → is_ready q.args.pairs.now
    q.args.ops.now q.found_place-k.result ≡ true
ready q = sym q.is_ready.ensures ∙ q.if-not-is_ready.false

any-step-requires : tie.Need-any_step-requires
any-step-requires c κs = search rules

same_length : tie.Need-shape_of-state-then-item-ne7
same_length c = search rules

same-length-2 : tie.Need-shape_of-item-then-item-ne7
same-length-2 c = search rules

returns : tie.Need-returns-then-item-ne7
returns c = as_lent c.before.before.before.before.before.before.before.before.before c.any_step.ensures

state-in-requires : tie.Need-state_in-from-requires
state-in-requires c κs = search rules

quick-left-requires : tie.Need-quick_left-left-requires
quick-left-requires c κs = search rules

any-step-requires-2 : tie.Need-any_step-requires-then-left-eq0
any-step-requires-2 c κs = search rules

same-length-3 : tie.Need-shape_of-state-then-left-eq0
same-length-3 c = search rules

same-length-4 : tie.Need-shape_of-item-then-left-eq0
same-length-4 c = search rules

returns-2 : tie.Need-returns-then-left-eq0
returns-2 c =
    as_lent c.before.before.before.before.before.before.before.before.before.before.before.before c.any_step-then-left-eq0.ensures

item-at-requires : tie.Need-item_at-requires
item-at-requires c κs = search rules

found-place-requires : tie.Need-found_place-k-requires
found-place-requires c κs = search rules

is-ready-requires : tie.Need-is_ready-requires
is-ready-requires c κs = search rules

any-step-requires-3 : tie.Need-any_step-requires-then-not-is_ready
any-step-requires-3 c κs = search rules

same-length-5 : tie.Need-shape_of-state-then-not-is_ready
same-length-5 c = search rules

same-length-6 : tie.Need-shape_of-item-then-not-is_ready
same-length-6 c = search rules

returns-3 : tie.Need-returns-then-not-is_ready
returns-3 c =
    as_lent c.before.before.before.before.before.before.before.before.before.before.before.before.before.before.before.before c.any_step-then-not-is_ready.ensures

quick-step-requires : tie.Need-quick_step-stepped-requires
quick-step-requires c κs = search rules

tell-character-requires : tie.Need-tell_character-requires
tell-character-requires c κs =
    let a = c.args in
    told_asks a.pairs.now a.ops.now (number_of (word_of a.boundary)) a.word.now
    (options_of a.disable_left_boundary (number_of (word_of a.right_boundary_override))) a.state.now c.state_in-from.ensures
    c.quick_left-left.ensures c.if-left-eq0.false c.item_at.ensures c.found_place-k.ensures (ready (c.before)) c.quick_step-stepped.ensures a.item.now
    c.if-item-ne7.false

put-state-requires : tie.Need-put_state-requires
put-state-requires c κs = search rules

same-length-7 : tie.Need-shape_of-state
same-length-7 c = search rules

same-length-8 : tie.Need-shape_of-item
same-length-8 c = search rules

returns-4 : tie.Need-returns
returns-4 c =
    let a = c.args in
    as_lent c.before.before.before.before.before.before.before.before.before.before.before.before.before.before.before.before.before.before.before
    (steps_told a.pairs.now a.ops.now (number_of (word_of a.boundary)) a.word.now
    (options_of a.disable_left_boundary (number_of (word_of a.right_boundary_override))) a.state.now c.state_in-from.ensures
    c.quick_left-left.ensures c.if-left-eq0.false c.item_at.ensures c.found_place-k.ensures (ready (c.before.before.before.before.before.before.before.before)) c.quick_step-stepped.ensures
    a.item.now c.if-item-ne7.false c.tell_character.new.item c.tell_character.ensures c.put_state.result c.put_state.new.list
    c.put_state.ensures)

pub ligkern_step_spec : {M : Type 1} → statement M
ligkern_step_spec =
    tie.close
    (tie.spec
    any-step-requires
    same_length
    same-length-2
    returns
    state-in-requires
    quick-left-requires
    any-step-requires-2
    same-length-3
    same-length-4
    returns-2
    item-at-requires
    found-place-requires
    is-ready-requires
    any-step-requires-3
    same-length-5
    same-length-6
    returns-3
    quick-step-requires
    tell-character-requires
    put-state-requires
    same-length-7
    same-length-8
    returns-4)
