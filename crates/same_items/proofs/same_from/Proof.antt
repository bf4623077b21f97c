-- `same_items::same_from` meets its contract. The loop's invariant: whether the runs are the same is decided by what is left of them. The measure is how many
-- items the first can still give.
-- Assumes nothing.
use mathlib.Core.Path.{◌≡◌, refl, sym, ap, subst, ◌∙◌}
use mathlib.Core.Bool.{Bool, true, false}
use native.Mathlib.Omega.{arith}
use lib.ListN.{length}
use borrow.Author.Tests.{not-true, not-false}
use Prim.Native.Nat.{ℕ}
use lib.IntN.{ℤ}
use Rattle.words.specs.Words.{word_of, number_of}
use Rattle.words.proofs.Bits.{number_word}
use Rattle.captions.specs.Tables.{op_count}
use Rattle.removals.specs.Items.{most_items, run_items, same_items}
use Rattle.same_items.proofs.Stepping.{fewer_items, runs_differ, runs_end, runs_go_on}
use Rattle.same_items.proofs.same_from.Statement.{statement}
use Rattle.same_items.proofs.same_from.Tie as tie

abbrev invariant-loop : tie.invariant-loop-options
invariant-loop pairs ops pairs-without ops-without boundary word options s₀ t₀ s t =
    same_items (run_items pairs ops (number_of boundary) word options s₀) (run_items pairs-without ops-without (number_of boundary) word options t₀)
    ≡ same_items (run_items pairs ops (number_of boundary) word options s) (run_items pairs-without ops-without (number_of boundary) word options t)

abbrev decreases-loop : tie.decreases-loop-options
decreases-loop pairs ops pairs-without ops-without boundary word options s₀ t₀ s t = most_items (op_count ops) (length word) s

-- the two runs as the caller lent them: the boundary character is handed over as its bits
lent : (s : tie.Start invariant-loop decreases-loop) → (r : Bool) → let a = s.args in
    r ≡ same_items (run_items a.pairs.now a.ops.now (number_of (word_of a.boundary)) a.word.now a.options a.state)
    (run_items a.pairs_without.now a.ops_without.now (number_of (word_of a.boundary)) a.word.now a.options a.state) →
    r ≡ same_items (run_items a.pairs.now a.ops.now a.boundary a.word.now a.options a.state)
    (run_items a.pairs_without.now a.ops_without.now a.boundary a.word.now a.options a.state)
lent s r h =
    let a = s.args in
    subst (λ (z : ℤ). r ≡ same_items (run_items a.pairs.now a.ops.now z a.word.now a.options a.state)
    (run_items a.pairs_without.now a.ops_without.now z a.word.now a.options a.state)) (number_word a.boundary s.ranges.boundary) h

loop-holds : tie.Need-loop-options-init invariant-loop decreases-loop
loop-holds c = refl

step-requires : tie.Need-step-a-requires invariant-loop decreases-loop
step-requires c κs = tt

step-requires-2 : tie.Need-step-b-requires invariant-loop decreases-loop
step-requires-2 c κs = tt

same-answer-requires : tie.Need-same_answer-requires invariant-loop decreases-loop
same-answer-requires c κs = tt

returns : tie.Need-returns-then-not-same_answer invariant-loop decreases-loop
returns c =
    let a = c.args in
    lent (c.before.before.before.before.before.before) false
    (sym (c.loop-options.invariant ∙ runs_differ a.pairs.now a.ops.now a.pairs_without.now a.ops_without.now (number_of (word_of a.boundary)) a.word.now
    a.options c.loop-options.s c.loop-options.t c.step-a.result c.step-b.result c.step-a.ensures c.step-b.ensures (sym c.same_answer.ensures ∙ c.if-not-same_answer.true)))

is-item-requires : tie.Need-is_item-requires invariant-loop decreases-loop
is-item-requires c κs = tt

returns-2 : tie.Need-returns-then-not-is_item invariant-loop decreases-loop
returns-2 c =
    let a = c.args in
    lent (c.before.before.before.before.before.before.before.before) true
    (sym (c.loop-options.invariant ∙ runs_end a.pairs.now a.ops.now a.pairs_without.now a.ops_without.now (number_of (word_of a.boundary)) a.word.now
    a.options c.loop-options.s c.loop-options.t c.step-a.result c.step-b.result c.step-a.ensures c.step-b.ensures (sym c.same_answer.ensures ∙ c.if-not-same_answer.false)
    (sym c.is_item.ensures ∙ c.if-not-is_item.true)))

loop-less : tie.Need-loop-options-smaller invariant-loop decreases-loop
loop-less c =
    let a = c.args in
    fewer_items a.pairs.now a.ops.now (number_of (word_of a.boundary)) a.word.now a.options c.loop-options.s c.step-a.result c.step-a.ensures
    (sym c.is_item.ensures ∙ c.if-not-is_item.false)

loop-again : tie.Need-loop-options-preserved invariant-loop decreases-loop
loop-again c =
    let a = c.args in
    c.loop-options.invariant ∙ runs_go_on a.pairs.now a.ops.now a.pairs_without.now a.ops_without.now (number_of (word_of a.boundary)) a.word.now
    a.options c.loop-options.s c.loop-options.t c.step-a.result c.step-b.result c.step-a.ensures c.step-b.ensures (sym c.same_answer.ensures ∙ c.if-not-same_answer.false)
    (sym c.is_item.ensures ∙ c.if-not-is_item.false)

pub same_from_spec : {M : Type 1} → statement M
same_from_spec =
    tie.close
    (tie.spec
    invariant-loop
    decreases-loop
    loop-holds
    step-requires
    step-requires-2
    same-answer-requires
    returns
    is-item-requires
    returns-2
    loop-less
    loop-again)
