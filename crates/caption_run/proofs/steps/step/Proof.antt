-- `caption_run::steps::step` meets its contract: a quick step is the step, and else it is the step by turns.
-- Assumes nothing.
use mathlib.Core.Path.{◌≡◌, sym, ap, ◌∙◌}
use mathlib.Core.Bool.{true}
use Prim.Native.Nat.{ℕ, suc, ◌<◌}
use native.Mathlib.Omega.{arith}
use lib.IntN.{ℤ}
use lib.ListN.{length}
use Rattle.words.specs.Words.{word_of, number_of}
use Rattle.words.proofs.Bits.{number_word}
use Rattle.captions.specs.declared.Step.{Step}
use Rattle.captions.specs.Steps.{step_of, Stepped}
use Rattle.captions.proofs.Replies.{stepped_as}
use Rattle.step_quick.specs.Quick.{plain_code, next_letter, is_quick, found_place}
use Rattle.step_quick.proofs.Theorems.{left_quick, quick_is, quick_steps}
use borrow.Author.Rules.{rules}
use Rattle.caption_run.proofs.steps.step.Statement.{statement}
use Rattle.caption_run.proofs.steps.step.Tie as tie

-- what is `step_of` with the boundary character passed as its bits
answered : (c : tie.Start) → let a = c.args in
    (r : Step) → r ≡ step_of a.pairs.now a.ops.now (number_of (word_of a.boundary)) a.word.now a.options a.state →
    Stepped a.pairs.now a.ops.now a.boundary a.word.now a.options a.state r
answered c r e =
    let a = c.args in
    stepped_as a.pairs.now a.ops.now a.boundary a.word.now a.options a.state
    (e ∙ ap (λ (z : ℤ). step_of a.pairs.now a.ops.now z a.word.now a.options a.state) (number_word a.boundary c.ranges.boundary))

quick : (c : tie.Else-left-eq0) → let a = c.args in
    (is_quick a.ops.now (number_of (word_of a.boundary)) a.word.now a.options a.state ≡ true)
    × (c.quick_left-left.result ≡ suc (plain_code a.state.next_left))
quick c =
    let a = c.args in
    left_quick a.ops.now (number_of (word_of a.boundary)) a.word.now a.options a.state c.quick_left-left.result
    c.quick_left-left.ensures c.if-left-eq0.false

there : (c : tie.Else-left-eq0) → let a = c.args in a.state.read < length a.word.now
there c =
    let a = c.args in
    (quick_is a.ops.now (number_of (word_of a.boundary)) a.word.now a.options a.state (quick c).0).there

quick-left-requires : tie.Need-quick_left-left-requires
quick-left-requires c κs = search rules

kern-step-requires : tie.Need-kern_step-requires
kern-step-requires c κs = search rules

returns : tie.Need-returns-then-left-eq0
returns c = answered c.before.before.before.before c.kern_step.result c.kern_step.ensures

mul-found-place : tie.Need-offset_bounds-word-read
mul-found-place c = omega (arith, there c)

shared-slice-read-found-place : tie.Need-bounds-word-read
shared-slice-read-found-place c = there c.before

found-place-requires : tie.Need-found_place-k-requires
found-place-requires c κs = search rules

is-ready-requires : tie.Need-is_ready-requires
is-ready-requires c κs = search rules

quick-step-requires : tie.Need-quick_step-requires
quick-step-requires c κs = search rules

returns-2 : tie.Need-returns-then-is_ready
returns-2 c =
    let a = c.args in
    let q = quick c.before.before.before.before.before in
    answered c.before.before.before.before.before.before.before.before c.quick_step.result
    (c.quick_step.ensures
    ∙ sym (quick_steps a.pairs.now a.ops.now (number_of (word_of a.boundary)) a.word.now a.options a.state
    c.found_place-k.result q.0
    (c.found_place-k.ensures ∙ ap (λ (l : ℕ). found_place a.pairs.now l (next_letter a.word.now a.state)) q.1)
    (sym c.is_ready.ensures ∙ c.if-is_ready.true)))

turned-step-requires : tie.Need-turned_step-requires
turned-step-requires c κs = search rules

returns-3 : tie.Need-returns
returns-3 c = answered c.before.before.before.before.before.before.before.before c.turned_step.result c.turned_step.ensures

pub step_spec : {M : Type 1} → statement M
step_spec =
    tie.close
    (tie.spec
    quick-left-requires
    kern-step-requires
    returns
    mul-found-place
    shared-slice-read-found-place
    found-place-requires
    is-ready-requires
    quick-step-requires
    returns-2
    turned-step-requires
    returns-3)
