-- `index_set_word::set_from` meets its contract. The loop's invariant: the items of the steps so far are written, and those of the steps from the state on
-- come after them. The measure is the room that is left. Assumes nothing.
use mathlib.Core.Path.{◌≡◌, sym, subst, ◌∙◌}
use Prim.Native.Nat.{◌+◌, ◌-◌, ◌*◌, ◌/◌, ◌<◌, ◌≤◌}
use native.Mathlib.Omega.{arith}
use lib.IntN.{ℤ}
use lib.ListN.{length}
use borrow.Author.Tests.{not-true, not-false}
use Rattle.words.specs.Words.{word_of, number_of}
use Rattle.words.proofs.Bits.{number_word}
use Rattle.words.proofs.Lists.{appending_length}
use Rattle.captions.specs.declared.Step.{Step}
use Rattle.word_items.specs.ItemLists.{Small}
use Rattle.word_items.proofs.Laws.{item_there}
use Rattle.word_set.specs.Setting.{items_by}
use Rattle.word_set.specs.Writing.{Tells}
use Rattle.word_set.proofs.Standing.{Standing, standing_none, standing_more, standing_full, standing_stop}
use Rattle.word_set.proofs.ItemsGiven.{standing_items}
use Rattle.index_step.specs.Indexed.{indexed_step_of}
use Rattle.index_step.proofs.Laws.{answered_is}
use Rattle.index_set_word.proofs.Small.{indexed_small}
use borrow.Author.Rules.{rules}
use Rattle.index_set_word.proofs.set_from.Statement.{statement}
use Rattle.index_set_word.proofs.set_from.Tie as tie

abbrev invariant-loop : tie.invariant-loop-options
invariant-loop index pairs ops boundary word options items₀ s₀ k₀ items s k =
    Standing (indexed_step_of index pairs ops (number_of boundary) word options) s₀ items₀ items s k

abbrev decreases-loop : tie.decreases-loop-options
decreases-loop index pairs ops boundary word options items₀ s₀ k₀ items s k = length items₀ / 6 - k

-- where the run stands after the letters
stands : (g : tie.After-set_letters-letters invariant-loop decreases-loop) → let l = g.before.before in let a = g.args in
    Standing (indexed_step_of a.index.now a.pairs.now a.ops.now (number_of (word_of a.boundary)) a.word.now a.options) a.state
    a.items.now g.set_letters-letters.new.items g.set_letters-letters.result.state (g.loop-options.k + g.set_letters-letters.result.count)
stands g =
    let l = g.before.before in
    let a = g.args in
    standing_items (indexed_step_of a.index.now a.pairs.now a.ops.now (number_of (word_of a.boundary)) a.word.now a.options) a.state
    a.items.now g.loop-options.items g.loop-options.s g.loop-options.k g.loop-options.invariant g.set_letters-letters.ensures

held : (g : tie.After-set_letters-letters invariant-loop decreases-loop) →
    length g.set_letters-letters.new.items ≡ length g.args.items.now
held g = appending_length g.args.items.now (stands g).stored

-- the step that is next
step_is : (c : tie.After-step_indexed-stepped invariant-loop decreases-loop) → let g = c.before.before.before.before in let a = c.args in
    c.step_indexed-stepped.result ≡ indexed_step_of a.index.now a.pairs.now a.ops.now (number_of (word_of a.boundary)) a.word.now a.options
    c.set_letters-letters.result.state
step_is c =
    let g = c.before.before.before.before in
    let a = c.args in
    answered_is a.index.now a.pairs.now a.ops.now (number_of (word_of a.boundary)) a.word.now a.options c.set_letters-letters.result.state
    c.step_indexed-stepped.ensures

small : (c : tie.After-step_indexed-stepped invariant-loop decreases-loop) → Small c.step_indexed-stepped.result.answer
small c =
    let a = c.args in
    subst (λ (t : Step). Small t.answer) (sym (step_is c))
    (indexed_small a.index.now a.pairs.now a.ops.now (number_of (word_of a.boundary)) a.word.now a.options c.set_letters-letters.result.state)

loop-holds : tie.Need-loop-options-init invariant-loop decreases-loop
loop-holds c =
    let a = c.args in
    standing_none (indexed_step_of a.index.now a.pairs.now a.ops.now (number_of (word_of a.boundary)) a.word.now a.options) a.state
    a.items.now

set-letters-requires : tie.Need-set_letters-letters-requires invariant-loop decreases-loop
set-letters-requires c κs = search rules

add-count : tie.Need-overflow_add-count invariant-loop decreases-loop
add-count c =
    omega (arith, (stands (c.before.before.before)).few, c.well_formed.1.1.1.1.1.1.1.0.0)

step-indexed-requires : tie.Need-step_indexed-stepped-requires invariant-loop decreases-loop
step-indexed-requires c κs = search rules

is-item-requires : tie.Need-is_item-requires invariant-loop decreases-loop
is-item-requires c κs = search rules

stopped-requires : tie.Need-stopped-requires invariant-loop decreases-loop
stopped-requires c κs = search rules

same_length : tie.Need-shape_of-items-then-not-is_item invariant-loop decreases-loop
same_length c = omega (arith, c.stopped.auto.items, held c.before.before.before.before.before.before.before.before.before)

returns : tie.Need-returns-then-not-is_item invariant-loop decreases-loop
returns c =
    let a = c.args in
    subst (λ (z : ℤ). Tells
    (items_by (indexed_step_of a.index.now a.pairs.now a.ops.now z a.word.now a.options) (length a.items.now / 6) a.state)
    a.items.now c.stopped.result c.stopped.new.items) (number_word a.boundary c.ranges.boundary)
    (standing_stop (indexed_step_of a.index.now a.pairs.now a.ops.now (number_of (word_of a.boundary)) a.word.now a.options) a.state
    a.items.now c.set_letters-letters.new.items c.set_letters-letters.result.state (c.loop-options.k + c.set_letters-letters.result.count) (stands (c.before.before.before.before.before.before.before.before.before)) c.step_indexed-stepped.result (step_is (c.before.before.before.before.before))
    (small (c.before.before.before.before.before))
    (sym c.is_item.ensures ∙ c.if-not-is_item.true) c.stopped.result c.stopped.new.items c.stopped.ensures
    c.requires)

stopped-requires-2 : tie.Need-stopped-requires-then-items-count invariant-loop decreases-loop
stopped-requires-2 c κs = search rules

same-length-2 : tie.Need-shape_of-items-then-items-count invariant-loop decreases-loop
same-length-2 c = omega (arith, c.stopped-then-items-count.auto.items, held c.before.before.before.before.before.before.before.before.before.before)

returns-2 : tie.Need-returns-then-items-count invariant-loop decreases-loop
returns-2 c =
    let a = c.args in
    subst (λ (z : ℤ). Tells
    (items_by (indexed_step_of a.index.now a.pairs.now a.ops.now z a.word.now a.options) (length a.items.now / 6) a.state)
    a.items.now c.stopped-then-items-count.result c.stopped-then-items-count.new.items) (number_word a.boundary c.ranges.boundary)
    (standing_full (indexed_step_of a.index.now a.pairs.now a.ops.now (number_of (word_of a.boundary)) a.word.now a.options) a.state
    a.items.now c.set_letters-letters.new.items c.set_letters-letters.result.state (c.loop-options.k + c.set_letters-letters.result.count) (stands (c.before.before.before.before.before.before.before.before.before.before)) c.step_indexed-stepped.result (step_is (c.before.before.before.before.before.before))
    (sym c.is_item.ensures ∙ c.if-not-is_item.false)
    c.if-items-count.true c.stopped-then-items-count.result c.stopped-then-items-count.new.items c.stopped-then-items-count.ensures)

-- there is room for the item of the step
room : (c : tie.Else-items-count invariant-loop decreases-loop) → c.loop-options.k + c.set_letters-letters.result.count < length c.args.items.now / 6
room c = omega (arith, c.if-items-count.false, held c.before.before.before.before.before.before.before)

mul-put-item : tie.Need-overflow_mul-count invariant-loop decreases-loop
mul-put-item c =
    omega (arith, room (c.before), c.well_formed.1.1.1.1.1.1.1.0.0)

put-item-requires : tie.Need-put_item-requires invariant-loop decreases-loop
put-item-requires c κs = search rules

add-k : tie.Need-overflow_add-k invariant-loop decreases-loop
add-k c =
    omega (arith, room (c.before.before.before.before), c.well_formed.1.1.1.1.1.1.1.0.0)

loop-less : tie.Need-loop-options-smaller invariant-loop decreases-loop
loop-less c = omega (arith, room c.before.before.before.before)

loop-again : tie.Need-loop-options-preserved invariant-loop decreases-loop
loop-again c =
    let a = c.args in
    let d = c.set_letters-letters.new.items in
    let k = c.loop-options.k + c.set_letters-letters.result.count in
    let fits : 6 * k + 6 ≤ length d = omega (arith, c.if-items-count.false) in
    standing_more (indexed_step_of a.index.now a.pairs.now a.ops.now (number_of (word_of a.boundary)) a.word.now a.options) a.state
    a.items.now d c.set_letters-letters.result.state k (stands (c.before.before.before.before.before.before.before.before.before.before.before)) c.step_indexed-stepped.result (step_is (c.before.before.before.before.before.before.before))
    (sym c.is_item.ensures ∙ c.if-not-is_item.false)
    c.if-items-count.false c.put_item.new.items
    (item_there d c.put_item.new.items (6 * k) c.step_indexed-stepped.result.answer fits (small (c.before.before.before.before.before.before.before)) c.put_item.ensures)

pub set_from_spec : {M : Type 1} → statement M
set_from_spec =
    tie.close
    (tie.spec
    invariant-loop
    decreases-loop
    loop-holds
    set-letters-requires
    add-count
    step-indexed-requires
    is-item-requires
    stopped-requires
    same_length
    returns
    stopped-requires-2
    same-length-2
    returns-2
    mul-put-item
    put-item-requires
    add-k
    loop-less
    loop-again)
