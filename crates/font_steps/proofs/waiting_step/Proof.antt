-- `font_steps::waiting_step` meets its contract: refused for a boundary character, changed, or in the font in force.
-- Assumes nothing.
use mathlib.Core.Path.{◌≡◌, sym, ap, subst, ◌∙◌}
use mathlib.Core.Bool.{Bool, true}
use Prim.Native.Nat.{ℕ}
use lib.IntN.{ℤ}
use Rattle.words.specs.Words.{word_of, number_of}
use Rattle.words.proofs.Bits.{number_word}
use Rattle.lang.specs.Checks.{or_else, absent_refusal}
use Rattle.captions.specs.declared.State.{State}
use Rattle.captions.specs.declared.Step.{Step}
use Rattle.captions.specs.Steps.{right_item, step_of}
use Rattle.captions.proofs.Replies.{stepped_is}
use Rattle.font_runs.specs.Requests.{LentFont, lending}
use Rattle.font_runs.specs.Changes.{free_state, restarted, in_force, in_asked}
use Rattle.font_runs.specs.Passing.{passed}
use Rattle.font_steps.proofs.Laws.{edges_refused, changes, stays}
use borrow.Author.Rules.{rules}
use Rattle.font_steps.proofs.waiting_step.Statement.{statement}
use Rattle.font_steps.proofs.waiting_step.Tie as tie

-- the font in force, and the one asked for
abbrev font : tie.Start → LentFont
font s = lending s.args.pairs.now s.args.ops.now s.args.boundary

abbrev other : tie.Start → LentFont
other s = lending s.args.asked_pairs.now s.args.asked_ops.now s.args.asked_boundary

-- the number, of the boundary characters as they were lent
edges : (c : tie.After-both_edges-edges) → let a = c.args in
    c.both_edges-edges.result ≡ or_else (absent_refusal 255 a.boundary) (absent_refusal 255 a.asked_boundary)
edges c =
    c.both_edges-edges.ensures
    ∙ (λ j. or_else (absent_refusal 255 (number_word c.args.boundary c.ranges.boundary j))
    (absent_refusal 255 (number_word c.args.asked_boundary c.ranges.asked_boundary j)))

-- the state that is tested, and whether it is free
at : (c : tie.After-passed-at) → c.passed-at.result ≡ passed (font (c.before.before.before.before.before)) c.args.word.now c.args.run.state
at c = c.passed-at.ensures

free : (c : tie.After-is_free) → let s = c.before.before.before.before.before.before in let a = c.args in
    c.is_free.result
    ≡ free_state a.pairs.now (right_item a.boundary a.options.right_boundary_override) a.word.now
    (passed (font (c.before.before.before.before.before.before)) a.word.now a.run.state)
free c =
    let s = c.before.before.before.before.before.before in
    let a = c.args in
    c.is_free.ensures
    ∙ (λ j. free_state a.pairs.now (right_item (number_word a.boundary c.ranges.boundary j) a.options.right_boundary_override) a.word.now
    (at c.before j))

both-edges-requires : tie.Need-both_edges-edges-requires
both-edges-requires c κs = search rules

returns : tie.Need-returns-then-edges-ne0
returns c =
    let a = c.args in
    edges_refused (font c.before.before.before) (other c.before.before.before) a.word.now a.options a.run a.number _ (edges (c.before)) c.if-edges-ne0.true

passed-requires : tie.Need-passed-at-requires
passed-requires c κs = search rules

is-free-requires : tie.Need-is_free-requires
is-free-requires c κs = search rules

restarted-requires : tie.Need-restarted-from-requires
restarted-requires c κs = search rules

step-requires : tie.Need-step-changed-requires
step-requires c κs = search rules

in-asked-requires : tie.Need-in_asked-requires
in-asked-requires c κs = search rules

returns-2 : tie.Need-returns-then-is_free
returns-2 c =
    let a = c.args in
    c.in_asked.ensures
    ∙ ap (in_asked a.run a.number)
    (stepped_is a.asked_pairs.now a.asked_ops.now (number_of (word_of a.asked_boundary)) a.word.now a.options c.restarted-from.result
    c.step-changed.ensures
    ∙ (λ j. step_of a.asked_pairs.now a.asked_ops.now (number_word a.asked_boundary c.ranges.asked_boundary j) a.word.now a.options
    ((c.restarted-from.ensures ∙ ap restarted (at c.before.before.before.before.before)) j)))
    ∙ changes (font (c.before.before.before.before.before.before.before.before.before.before)) (other (c.before.before.before.before.before.before.before.before.before.before)) a.word.now a.options a.run a.number (sym (edges (c.before.before.before.before.before.before.before.before)) ∙ c.if-edges-ne0.false)
    (sym (free (c.before.before.before.before)) ∙ c.if-is_free.true)

step-requires-2 : tie.Need-step-kept-requires
step-requires-2 c κs = search rules

in-force-requires : tie.Need-in_force-requires
in-force-requires c κs = search rules

returns-3 : tie.Need-returns
returns-3 c =
    let a = c.args in
    c.in_force.ensures
    ∙ ap (in_force a.run)
    (stepped_is a.pairs.now a.ops.now (number_of (word_of a.boundary)) a.word.now a.options a.run.state c.step-kept.ensures
    ∙ ap (λ (z : ℤ). step_of a.pairs.now a.ops.now z a.word.now a.options a.run.state) (number_word a.boundary c.ranges.boundary))
    ∙ stays (font (c.before.before.before.before.before.before.before.before.before)) (other (c.before.before.before.before.before.before.before.before.before)) a.word.now a.options a.run a.number (sym (edges (c.before.before.before.before.before.before.before)) ∙ c.if-edges-ne0.false)
    (sym (free (c.before.before.before)) ∙ c.if-is_free.false)

pub waiting_step_spec : {M : Type 1} → statement M
waiting_step_spec =
    tie.close
    (tie.spec
    both-edges-requires
    returns
    passed-requires
    is-free-requires
    restarted-requires
    step-requires
    in-asked-requires
    returns-2
    step-requires-2
    in-force-requires
    returns-3)
