-- `word_set::next_step` meets its contract: a quick step is the step, and else it is the step past the look-up.
-- Assumes nothing.
use mathlib.Core.Path.{◌≡◌, sym, ap, ◌∙◌}
use lib.IntN.{ℤ}
use borrow.Author.Tests.{not-false}
use Rattle.words.specs.Words.{word_of, number_of}
use Rattle.words.proofs.Bits.{number_word}
use Rattle.captions.specs.Steps.{step_of}
use Rattle.step_quick.proofs.Theorems.{quick_steps}
use borrow.Author.Rules.{rules}
use Rattle.word_set.proofs.next_step.Statement.{statement}
use Rattle.word_set.proofs.next_step.Tie as tie

-- a boundary character that is passed as its bits
passed : (c : tie.Start) → let a = c.args in
    step_of a.pairs.now a.ops.now (number_of (word_of a.boundary)) a.word.now a.options a.s
    ≡ step_of a.pairs.now a.ops.now a.boundary a.word.now a.options a.s
passed c =
    let a = c.args in
    ap (λ (z : ℤ). step_of a.pairs.now a.ops.now z a.word.now a.options a.s) (number_word a.boundary c.ranges.boundary)

kern-step-requires : tie.Need-kern_step-requires
kern-step-requires c κs = search rules

returns : tie.Need-returns-then-pairs-pair
returns c = c.kern_step.ensures ∙ passed c.before.before.before

is-ready-requires : tie.Need-is_ready-requires
is-ready-requires c κs = search rules

kern-step-requires-2 : tie.Need-kern_step-requires-then-not-is_ready
kern-step-requires-2 c κs = search rules

returns-2 : tie.Need-returns-then-not-is_ready
returns-2 c = c.kern_step-then-not-is_ready.ensures ∙ passed c.before.before.before.before.before

quick-step-requires : tie.Need-quick_step-requires
quick-step-requires c κs = search rules

returns-3 : tie.Need-returns
returns-3 c =
    let a = c.args in
    let q = c.requires c.if-pairs-pair.false in
    c.quick_step.ensures
    ∙ sym (quick_steps a.pairs.now a.ops.now a.boundary a.word.now a.options a.s a.pair q.0 q.1
    (sym c.is_ready.ensures ∙ c.if-not-is_ready.false))

pub next_step_spec : {M : Type 1} → statement M
next_step_spec =
    tie.close
    (tie.spec
    kern-step-requires
    returns
    is-ready-requires
    kern-step-requires-2
    returns-2
    quick-step-requires
    returns-3)
