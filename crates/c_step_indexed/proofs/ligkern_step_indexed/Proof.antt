-- `c_step_indexed::ligkern_step_indexed` meets its contract: a quick step by proofs/Stepping, and every other one by any_step.
-- Assumes nothing.
use mathlib.Core.Path.{◌≡◌, sym, subst, ◌∙◌}
use mathlib.Core.List.{List}
use Prim.Native.Nat.{ℕ}
use native.Mathlib.Omega.{arith}
use lib.IntN.{ℤ}
use Rattle.words.specs.Words.{word_of, number_of}
use Rattle.words.proofs.Bits.{number_word}
use borrow.Author.Tests.{not-false}
use Rattle.captions.specs.declared.Step.{Step}
use Rattle.c_states.specs.States.{options_of}
use Rattle.c_steps.specs.Step.{StepsBy}
use Rattle.c_steps.proofs.Stepping.{told_sets}
use Rattle.c_steps.proofs.Told.{told_at_once, kern_item_lem}
use Rattle.c_step_indexed.specs.Indexed.{indexed_step_in}
use Rattle.c_step_indexed.proofs.Stepping.{indexed_long, indexed_given_small, quick_told, quick_item, kern_told}
use borrow.Author.Rules.{rules}
use Rattle.c_step_indexed.proofs.ligkern_step_indexed.Statement.{statement}
use Rattle.c_step_indexed.proofs.ligkern_step_indexed.Tie as tie

-- what is said of the bits of the boundary character and the override, which are passed on, is said of them as they were lent
as_lent : (c : tie.Start) {r : ℕ} {state' : List ℕ} {item' : List ℤ} → let a = c.args in
    StepsBy
    (indexed_step_in a.index.now a.pairs.now a.ops.now (number_of (word_of a.boundary)) a.word.now
    (options_of a.disable_left_boundary (number_of (word_of a.right_boundary_override))) a.state.now) a.state.now a.item.now r state' item' →
    StepsBy
    (indexed_step_in a.index.now a.pairs.now a.ops.now a.boundary a.word.now
    (options_of a.disable_left_boundary a.right_boundary_override) a.state.now) a.state.now a.item.now r state' item'
as_lent c {r} {state'} {item'} =
    let a = c.args in
    let b = number_word a.boundary c.ranges.boundary in
    let o = number_word a.right_boundary_override c.ranges.right_boundary_override in
    subst (λ (t : Step). StepsBy t a.state.now a.item.now r state' item')
    (λ j. indexed_step_in a.index.now a.pairs.now a.ops.now (b j) a.word.now (options_of a.disable_left_boundary (o j)) a.state.now)

any-step-requires : tie.Need-any_step-requires
any-step-requires c κs = search rules

same_length : tie.Need-shape_of-state-then-item-ne7
same_length c = search rules

same-length-2 : tie.Need-shape_of-item-then-item-ne7
same-length-2 c = search rules

returns : tie.Need-returns-then-item-ne7
returns c = as_lent c.before.before.before.before.before.before.before.before.before.before c.any_step.ensures

state-in-requires : tie.Need-state_in-from-requires
state-in-requires c κs = search rules

quick-left-requires : tie.Need-quick_left-left-requires
quick-left-requires c κs = search rules

is-kern-requires : tie.Need-is_kern-requires
is-kern-requires c κs = search rules

any-step-requires-2 : tie.Need-any_step-requires-then-not-is_kern
any-step-requires-2 c κs = search rules

same-length-3 : tie.Need-shape_of-state-then-not-is_kern
same-length-3 c = search rules

same-length-4 : tie.Need-shape_of-item-then-not-is_kern
same-length-4 c = search rules

returns-2 : tie.Need-returns-then-not-is_kern
returns-2 c =
    as_lent c.before.before.before.before.before.before.before.before.before.before.before.before.before.before.before c.any_step-then-not-is_kern.ensures

give-kern-requires : tie.Need-give_kern-kerned-requires
give-kern-requires c κs = search rules

tell-requires : tie.Need-tell-requires
tell-requires c κs = search rules

put-state-requires : tie.Need-put_state-requires
put-state-requires c κs = search rules

same-length-5 : tie.Need-shape_of-state-then-left-eq0
same-length-5 c = search rules

same-length-6 : tie.Need-shape_of-item-then-left-eq0
same-length-6 c = search rules

returns-3 : tie.Need-returns-then-left-eq0
returns-3 c =
    let a = c.args in
    let b = number_of (word_of a.boundary) in
    let options = options_of a.disable_left_boundary (number_of (word_of a.right_boundary_override)) in
    let t : c.give_kern-kerned.result ≡ indexed_step_in a.index.now a.pairs.now a.ops.now b a.word.now options a.state.now =
    kern_told a.index.now a.pairs.now a.ops.now b a.word.now options a.state.now c.state_in-from.ensures c.is_kern.ensures
    (c.if-not-is_kern.false) c.give_kern-kerned.ensures in
    let told = kern_item_lem a.ops.now b a.word.now options c.state_in-from.result c.is_kern.ensures (c.if-not-is_kern.false)
    c.give_kern-kerned.ensures in
    as_lent (c.before.before.before.before.before.before.before.before.before.before.before.before.before.before.before.before.before.before)
    (told_at_once a.state.now a.item.now (indexed_step_in a.index.now a.pairs.now a.ops.now b a.word.now options a.state.now)
    c.give_kern-kerned.result t told (indexed_long a.index.now a.pairs.now a.ops.now b a.word.now options a.state.now)
    c.if-item-ne7.false c.tell.new.item
    (told_sets a.item.now c.tell.new.item c.give_kern-kerned.result.answer
    (indexed_given_small a.index.now a.pairs.now a.ops.now b a.word.now options a.state.now c.give_kern-kerned.result t)
    (omega (arith, c.if-item-ne7.false)) c.tell.ensures)
    c.put_state.result c.put_state.new.list c.put_state.ensures)

item-at-requires : tie.Need-item_at-requires
item-at-requires c κs = search rules

place-by-requires : tie.Need-place_by-k-requires
place-by-requires c κs = search rules

any-step-requires-3 : tie.Need-any_step-requires-then-pairs-k
any-step-requires-3 c κs = search rules

same-length-7 : tie.Need-shape_of-state-then-pairs-k
same-length-7 c = search rules

same-length-8 : tie.Need-shape_of-item-then-pairs-k
same-length-8 c = search rules

returns-4 : tie.Need-returns-then-pairs-k
returns-4 c =
    as_lent c.before.before.before.before.before.before.before.before.before.before.before.before.before.before.before.before c.any_step-then-pairs-k.ensures

is-ready-requires : tie.Need-is_ready-requires
is-ready-requires c κs = search rules

any-step-requires-4 : tie.Need-any_step-requires-then-not-is_ready
any-step-requires-4 c κs = search rules

same-length-9 : tie.Need-shape_of-state-then-not-is_ready
same-length-9 c = search rules

same-length-10 : tie.Need-shape_of-item-then-not-is_ready
same-length-10 c = search rules

returns-5 : tie.Need-returns-then-not-is_ready
returns-5 c =
    as_lent c.before.before.before.before.before.before.before.before.before.before.before.before.before.before.before.before.before.before
    c.any_step-then-not-is_ready.ensures

quick-step-requires : tie.Need-quick_step-stepped-requires
quick-step-requires c κs = search rules

tell-requires-2 : tie.Need-tell-requires-2
tell-requires-2 c κs = search rules

put-state-requires-2 : tie.Need-put_state-requires-2
put-state-requires-2 c κs = search rules

same-length-11 : tie.Need-shape_of-state
same-length-11 c = search rules

same-length-12 : tie.Need-shape_of-item
same-length-12 c = search rules

returns-6 : tie.Need-returns
returns-6 c =
    let a = c.args in
    let b = number_of (word_of a.boundary) in
    let options = options_of a.disable_left_boundary (number_of (word_of a.right_boundary_override)) in
    let t : c.quick_step-stepped.result ≡ indexed_step_in a.index.now a.pairs.now a.ops.now b a.word.now options a.state.now =
    quick_told a.index.now a.pairs.now a.ops.now b a.word.now options a.state.now c.state_in-from.ensures c.quick_left-left.ensures
    c.if-left-eq0.false c.item_at.ensures c.place_by-k.ensures c.if-pairs-k.false c.is_ready.ensures (c.if-not-is_ready.false)
    c.quick_step-stepped.ensures in
    let told = quick_item a.index.now a.pairs.now a.ops.now b a.word.now options a.state.now c.state_in-from.ensures c.quick_left-left.ensures
    c.if-left-eq0.false c.item_at.ensures c.place_by-k.ensures c.if-pairs-k.false c.is_ready.ensures (c.if-not-is_ready.false)
    c.quick_step-stepped.ensures in
    as_lent (c.before.before.before.before.before.before.before.before.before.before.before.before.before.before.before.before.before.before.before.before.before)
    (told_at_once a.state.now a.item.now (indexed_step_in a.index.now a.pairs.now a.ops.now b a.word.now options a.state.now)
    c.quick_step-stepped.result t told (indexed_long a.index.now a.pairs.now a.ops.now b a.word.now options a.state.now)
    c.if-item-ne7.false c.tell-2.new.item
    (told_sets a.item.now c.tell-2.new.item c.quick_step-stepped.result.answer
    (indexed_given_small a.index.now a.pairs.now a.ops.now b a.word.now options a.state.now c.quick_step-stepped.result t)
    (omega (arith, c.if-item-ne7.false)) c.tell-2.ensures)
    c.put_state-2.result c.put_state-2.new.list c.put_state-2.ensures)

pub ligkern_step_indexed_spec : {M : Type 1} → statement M
ligkern_step_indexed_spec =
    tie.close
    (tie.spec
    any-step-requires
    same_length
    same-length-2
    returns
    state-in-requires
    quick-left-requires
    is-kern-requires
    any-step-requires-2
    same-length-3
    same-length-4
    returns-2
    give-kern-requires
    tell-requires
    put-state-requires
    same-length-5
    same-length-6
    returns-3
    item-at-requires
    place-by-requires
    any-step-requires-3
    same-length-7
    same-length-8
    returns-4
    is-ready-requires
    any-step-requires-4
    same-length-9
    same-length-10
    returns-5
    quick-step-requires
    tell-requires-2
    put-state-requires-2
    same-length-11
    same-length-12
    returns-6)
