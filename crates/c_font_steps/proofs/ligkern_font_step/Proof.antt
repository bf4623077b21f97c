-- `c_font_steps::ligkern_font_step` meets its contract: by ligkern_step with nothing asked for, and where what is asked for is known to
-- wait; else by any_step.
-- Assumes nothing.
use mathlib.Core.Path.{◌≡◌, sym, ap, subst, ◌∙◌}
use mathlib.Core.Bool.{true, cond}
use mathlib.Core.List.{List}
use Prim.Native.Nat.{ℕ}
use native.Mathlib.Omega.{arith}
use lib.IntN.{ℤ}
use Rattle.words.specs.Words.{word_of, number_of}
use Rattle.words.proofs.Bits.{number_word}
use borrow.Author.Tests.{not-false}
use Rattle.captions.specs.declared.RunOptions.{RunOptions}
use Rattle.c_states.specs.States.{options_of}
use Rattle.font_runs.specs.declared.FontStep.{FontStep}
use Rattle.font_runs.specs.Requests.{LentFont, lending}
use Rattle.c_font_runs.proofs.Laws.{run_long}
use Rattle.c_font_step_any.specs.FontSteps.{font_step_in, TellsStep, is_idle}
use Rattle.c_font_waits.specs.Waiting.{is_waiting}
use Rattle.c_font_steps.proofs.Idle.{idle_run, idle_taken}
use Rattle.c_font_steps.proofs.Waiting.{kept_refused, kept_taken}
use borrow.Author.Rules.{rules}
use Rattle.c_font_steps.proofs.ligkern_font_step.Statement.{statement}
use Rattle.c_font_steps.proofs.ligkern_font_step.Tie as tie

-- with the boundary characters and the override passed on as their bits
abbrev bits : tie.Start → LentFont
bits s = lending s.args.pairs.now s.args.ops.now (number_of (word_of s.args.boundary))

abbrev otherBits : tie.Start → LentFont
otherBits s = lending s.args.asked_pairs.now s.args.asked_ops.now (number_of (word_of s.args.asked_boundary))

abbrev optionsBits : tie.Start → RunOptions
optionsBits s = options_of s.args.disable_left_boundary (number_of (word_of s.args.right_boundary_override))

-- .. and as they were lent
as_lent : (s : tie.Start) {r : ℕ} {ns' : List ℕ} {item' : List ℤ} → let a = s.args in
    TellsStep (font_step_in (bits s) (otherBits s) a.word.now (optionsBits s) a.run.now) a.run.now a.item.now r ns' item' →
    TellsStep
    (font_step_in (lending a.pairs.now a.ops.now a.boundary) (lending a.asked_pairs.now a.asked_ops.now a.asked_boundary)
    a.word.now (options_of a.disable_left_boundary a.right_boundary_override) a.run.now) a.run.now a.item.now r ns' item'
as_lent s {r} {ns'} {item'} h =
    let a = s.args in
    subst (λ (t : FontStep). TellsStep t a.run.now a.item.now r ns' item')
    (λ j. font_step_in (lending a.pairs.now a.ops.now (number_word a.boundary s.ranges.boundary j))
    (lending a.asked_pairs.now a.asked_ops.now (number_word a.asked_boundary s.ranges.asked_boundary j)) a.word.now
    (options_of a.disable_left_boundary (number_word a.right_boundary_override s.ranges.right_boundary_override j)) a.run.now) h

abbrev start : tie.After-is_kept → tie.Start
start k = k.before.before.before.before

-- the step stays in the font in force
kept : (c : tie.Else-not-is_kept) → let s = start c.before in
    cond c.is_idle-idle.result true
    (is_waiting (number_of (word_of s.args.boundary)) (number_of (word_of s.args.asked_boundary)) s.args.pairs.now s.args.word.now
    s.args.run.now) ≡ true
kept c = sym c.is_kept.ensures ∙ c.if-not-is_kept.false

is-idle-requires : tie.Need-is_idle-idle-requires
is-idle-requires c κs = search rules

is-kept-requires : tie.Need-is_kept-requires
is-kept-requires c κs = search rules

any-step-requires : tie.Need-any_step-requires
any-step-requires c κs = search rules

same_length : tie.Need-shape_of-run-then-not-is_kept
same_length c = search rules

same-length-2 : tie.Need-shape_of-item-then-not-is_kept
same-length-2 c = search rules

returns : tie.Need-returns-then-not-is_kept
returns c =
    as_lent (start c.before.before.before.before.before.before.before) c.any_step.ensures

ligkern-step-requires : tie.Need-ligkern_step-number-requires
ligkern-step-requires c κs = search rules

same-length-3 : tie.Need-shape_of-run-then-number-ne0
same-length-3 c = search rules

same-length-4 : tie.Need-shape_of-item-then-number-ne0
same-length-4 c = search rules

returns-2 : tie.Need-returns-then-number-ne0
returns-2 c =
    let s = start c.before.before.before.before.before.before.before.before in
    let a = s.args in
    as_lent s
    (kept_refused (bits s) (otherBits s) a.word.now (optionsBits s) a.run.now a.item.now c.ligkern_step-number.ensures
    c.is_idle-idle.result c.is_idle-idle.ensures (kept (c.before.before.before.before.before.before.before)) c.if-number-ne0.true)

slice-write-run : tie.Need-bounds-run-11
slice-write-run c =
    let a = (start c.before.before.before.before.before.before.before.before.before).args in
    omega (arith, run_long a.run.now (idle_run a.run.now (sym c.is_idle-idle.ensures ∙ c.if-idle.true)))

same-length-5 : tie.Need-shape_of-run-then-idle
same-length-5 c = search rules

same-length-6 : tie.Need-shape_of-item-then-idle
same-length-6 c = search rules

returns-3 : tie.Need-returns-then-idle
returns-3 c =
    let s = start c.before.before.before.before.before.before.before.before.before in
    let a = s.args in
    as_lent s
    (idle_taken a.run.now (sym c.is_idle-idle.ensures ∙ c.if-idle.true) (bits s) (otherBits s) a.word.now (optionsBits s)
    a.item.now c.ligkern_step-number.ensures c.if-number-ne0.false)

same-length-7 : tie.Need-shape_of-run-else-idle
same-length-7 c = search rules

same-length-8 : tie.Need-shape_of-item-else-idle
same-length-8 c = search rules

returns-4 : tie.Need-returns-else-idle
returns-4 c =
    let s = start c.before.before.before.before.before.before.before.before.before in
    let a = s.args in
    as_lent s
    (kept_taken (bits s) (otherBits s) a.word.now (optionsBits s) a.run.now a.item.now c.ligkern_step-number.ensures
    c.is_idle-idle.result c.is_idle-idle.ensures (kept (c.before.before.before.before.before.before.before.before)) c.if-idle.false c.if-number-ne0.false)

pub ligkern_font_step_spec : {M : Type 1} → statement M
ligkern_font_step_spec =
    tie.close
    (tie.spec
    is-idle-requires
    is-kept-requires
    any-step-requires
    same_length
    same-length-2
    returns
    ligkern-step-requires
    same-length-3
    same-length-4
    returns-2
    slice-write-run
    same-length-5
    same-length-6
    returns-3
    same-length-7
    same-length-8
    returns-4)
