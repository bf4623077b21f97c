-- `word_set::set_from` meets its contract. The loop's invariant: the items of the steps so far are written, and those of the steps from the state on come after
-- them. The measure is the room that is left. Assumes nothing.
use mathlib.Core.Path.{◌≡◌, sym, subst, ◌∙◌}
use Prim.Native.Nat.{◌+◌, ◌-◌, ◌*◌, ◌/◌, ◌<◌, ◌≤◌}
use native.Mathlib.Omega.{arith}
use lib.IntN.{ℤ}
use lib.ListN.{length}
use borrow.Author.Tests.{not-true, not-false}
use Rattle.words.specs.Words.{word_of, number_of}
use Rattle.words.proofs.Bits.{number_word}
use Rattle.words.proofs.Lists.{appending_length}
use Rattle.captions.specs.Steps.{step_of}
use Rattle.word_items.proofs.Laws.{item_there}
use Rattle.word_set.specs.Setting.{items_from}
use Rattle.word_set.specs.Writing.{Tells}
use Rattle.word_set.proofs.Standing.{Standing, standing_none, standing_more, standing_full, standing_stop}
use Rattle.word_set.proofs.ItemsGiven.{standing_items}
use Rattle.word_set.proofs.Laws.{item_small}
use Rattle.word_set.proofs.set_from.Statement.{statement}
use Rattle.word_set.proofs.set_from.Tie as tie

abbrev invariant-loop : tie.invariant-loop-options
invariant-loop pairs ops boundary word options items₀ s₀ k₀ items s k = Standing (step_of pairs ops (number_of boundary) word options) s₀ items₀ items s k

abbrev decreases-loop : tie.decreases-loop-options
decreases-loop pairs ops boundary word options items₀ s₀ k₀ items s k = length items₀ / 6 - k

-- the letters that stand before the next step are written
letters : (g : tie.After-give_letters-letters invariant-loop decreases-loop) → let l = g.before.before in let a = g.args in
    Standing (step_of a.pairs.now a.ops.now (number_of (word_of a.boundary)) a.word.now a.options) a.state a.items.now
    g.give_letters-letters.new.items g.give_letters-letters.result.state (g.loop-options.k + g.give_letters-letters.result.count)
letters g =
    let l = g.before.before in
    let a = g.args in
    standing_items (step_of a.pairs.now a.ops.now (number_of (word_of a.boundary)) a.word.now a.options) a.state a.items.now
    g.loop-options.items g.loop-options.s g.loop-options.k g.loop-options.invariant g.give_letters-letters.ensures.0

kept : (g : tie.After-give_letters-letters invariant-loop decreases-loop) →
    length g.give_letters-letters.new.items ≡ length g.args.items.now
kept g = appending_length g.args.items.now (letters g).stored

loop-holds : tie.Need-loop-options-init invariant-loop decreases-loop
loop-holds c =
    let a = c.args in
    standing_none (step_of a.pairs.now a.ops.now (number_of (word_of a.boundary)) a.word.now a.options) a.state a.items.now

give-letters-requires : tie.Need-give_letters-letters-requires invariant-loop decreases-loop
give-letters-requires c κs = tt

add-k : tie.Need-overflow_add-k invariant-loop decreases-loop
add-k c = let b = c.well_formed in omega (arith, (letters c.before.before.before).few)

next-step-requires : tie.Need-next_step-stepped-requires invariant-loop decreases-loop
next-step-requires c κs = c.give_letters-letters.ensures.1

is-item-requires : tie.Need-is_item-requires invariant-loop decreases-loop
is-item-requires c κs = tt

stopped-requires : tie.Need-stopped-requires invariant-loop decreases-loop
stopped-requires c κs = tt

same_length : tie.Need-shape_of-items-then-not-is_item invariant-loop decreases-loop
same_length c = omega (arith, c.stopped.auto.items, kept c.before.before.before.before.before.before.before.before.before)

returns : tie.Need-returns-then-not-is_item invariant-loop decreases-loop
returns c =
    let a = c.args in
    subst (λ (z : ℤ). Tells (items_from a.pairs.now a.ops.now z a.word.now a.options (length a.items.now / 6) a.state) a.items.now
    c.stopped.result c.stopped.new.items) (number_word a.boundary c.ranges.boundary)
    (standing_stop (step_of a.pairs.now a.ops.now (number_of (word_of a.boundary)) a.word.now a.options) a.state a.items.now
    c.give_letters-letters.new.items c.give_letters-letters.result.state (c.loop-options.k + c.give_letters-letters.result.count) (letters (c.before.before.before.before.before.before.before.before.before)) c.next_step-stepped.result
    c.next_step-stepped.ensures
    (item_small a.pairs.now a.ops.now (number_of (word_of a.boundary)) a.word.now a.options c.give_letters-letters.result.state c.next_step-stepped.result
    c.next_step-stepped.ensures) (sym c.is_item.ensures ∙ c.if-not-is_item.true) c.stopped.result c.stopped.new.items c.stopped.ensures c.requires)

stopped-requires-2 : tie.Need-stopped-requires-then-items-k invariant-loop decreases-loop
stopped-requires-2 c κs = tt

same-length-2 : tie.Need-shape_of-items-then-items-k invariant-loop decreases-loop
same-length-2 c = omega (arith, c.stopped-then-items-k.auto.items, kept c.before.before.before.before.before.before.before.before.before.before)

returns-2 : tie.Need-returns-then-items-k invariant-loop decreases-loop
returns-2 c =
    let a = c.args in
    subst (λ (z : ℤ). Tells (items_from a.pairs.now a.ops.now z a.word.now a.options (length a.items.now / 6) a.state) a.items.now
    c.stopped-then-items-k.result c.stopped-then-items-k.new.items) (number_word a.boundary c.ranges.boundary)
    (standing_full (step_of a.pairs.now a.ops.now (number_of (word_of a.boundary)) a.word.now a.options) a.state a.items.now
    c.give_letters-letters.new.items c.give_letters-letters.result.state (c.loop-options.k + c.give_letters-letters.result.count) (letters (c.before.before.before.before.before.before.before.before.before.before)) c.next_step-stepped.result
    c.next_step-stepped.ensures (sym c.is_item.ensures ∙ c.if-not-is_item.false) c.if-items-k.true c.stopped-then-items-k.result
    c.stopped-then-items-k.new.items c.stopped-then-items-k.ensures)

mul-put-item : tie.Need-overflow_mul-k invariant-loop decreases-loop
mul-put-item c =
    let b = c.well_formed in omega (arith, c.if-items-k.false, kept (c.before.before.before.before.before.before.before.before))

put-item-requires : tie.Need-put_item-requires invariant-loop decreases-loop
put-item-requires c κs = tt

-- there is room for the item of the step
room : (c : tie.Else-items-k invariant-loop decreases-loop) → c.loop-options.k + c.give_letters-letters.result.count < length c.args.items.now / 6
room c = omega (arith, c.if-items-k.false, kept c.before.before.before.before.before.before.before)

-- .. and it is written
more : (c : tie.After-put_item invariant-loop decreases-loop) → let g = c.before.before.before.before.before.before.before.before.before in
    let l = c.before.before.before.before.before.before.before.before.before.before.before in
    let a = c.args in
    Standing (step_of a.pairs.now a.ops.now (number_of (word_of a.boundary)) a.word.now a.options) a.state a.items.now
    c.put_item.new.items c.next_step-stepped.result.state (c.loop-options.k + c.give_letters-letters.result.count + 1)
more c =
    let g = c.before.before.before.before.before.before.before.before.before in
    let l = c.before.before.before.before.before.before.before.before.before.before.before in
    let a = c.args in
    let d = c.give_letters-letters.new.items in
    let k = c.loop-options.k + c.give_letters-letters.result.count in
    let fits : 6 * k + 6 ≤ length d = omega (arith, c.if-items-k.false) in
    let small = item_small a.pairs.now a.ops.now (number_of (word_of a.boundary)) a.word.now a.options c.give_letters-letters.result.state
    c.next_step-stepped.result c.next_step-stepped.ensures in
    standing_more (step_of a.pairs.now a.ops.now (number_of (word_of a.boundary)) a.word.now a.options) a.state a.items.now d
    c.give_letters-letters.result.state k (letters (c.before.before.before.before.before.before.before.before.before)) c.next_step-stepped.result c.next_step-stepped.ensures (sym c.is_item.ensures ∙ c.if-not-is_item.false)
    c.if-items-k.false c.put_item.new.items (item_there d c.put_item.new.items (6 * k) c.next_step-stepped.result.answer fits small c.put_item.ensures)

add-k-2 : tie.Need-overflow_add-k-in-loop-options invariant-loop decreases-loop
add-k-2 c =
    let b = c.well_formed in omega (arith, room c.before.before.before.before)

loop-less : tie.Need-loop-options-smaller invariant-loop decreases-loop
loop-less c = omega (arith, room c.before.before.before.before)

loop-again : tie.Need-loop-options-preserved invariant-loop decreases-loop
loop-again c = more c.before.before

pub set_from_spec : {M : Type 1} → statement M
set_from_spec =
    tie.close
    (tie.spec
    invariant-loop
    decreases-loop
    loop-holds
    give-letters-requires
    add-k
    next-step-requires
    is-item-requires
    stopped-requires
    same_length
    returns
    stopped-requires-2
    same-length-2
    returns-2
    mul-put-item
    put-item-requires
    add-k-2
    loop-less
    loop-again)
