-- `caption_run::steps::kern_step` meets its contract: a last kern is what the step gives.
-- Assumes nothing.
use mathlib.Core.Path.{◌≡◌, sym, ap, ◌∙◌}
use lib.IntN.{ℤ}
use Rattle.words.specs.Words.{word_of, number_of}
use Rattle.words.proofs.Bits.{number_word}
use Rattle.captions.specs.Steps.{step_of}
use Rattle.step_quick.proofs.Theorems.{quick_kerns}
use borrow.Author.Rules.{rules}
use Rattle.caption_run.proofs.steps.kern_step.Statement.{statement}
use Rattle.caption_run.proofs.steps.kern_step.Tie as tie

-- a boundary character that is passed as its bits
passed : (c : tie.Start) → let a = c.args in
    step_of a.pairs.now a.ops.now (number_of (word_of a.boundary)) a.word.now a.options a.state
    ≡ step_of a.pairs.now a.ops.now a.boundary a.word.now a.options a.state
passed c =
    let a = c.args in
    ap (λ (z : ℤ). step_of a.pairs.now a.ops.now z a.word.now a.options a.state) (number_word a.boundary c.ranges.boundary)

is-kern-requires : tie.Need-is_kern-requires
is-kern-requires c κs = search rules

give-kern-requires : tie.Need-give_kern-requires
give-kern-requires c κs = search rules

returns : tie.Need-returns-then-is_kern
returns c =
    let a = c.args in
    c.give_kern.ensures
    ∙ sym (quick_kerns a.pairs.now a.ops.now (number_of (word_of a.boundary)) a.word.now a.options a.state
    (sym c.is_kern.ensures ∙ c.if-is_kern.true)) ∙ passed c.before.before.before.before

turned-step-requires : tie.Need-turned_step-requires
turned-step-requires c κs = search rules

returns-2 : tie.Need-returns
returns-2 c = c.turned_step.ensures ∙ passed c.before.before.before.before

pub kern_step_spec : {M : Type 1} → statement M
kern_step_spec =
    tie.close
    (tie.spec
    is-kern-requires
    give-kern-requires
    returns
    turned-step-requires
    returns-2)
