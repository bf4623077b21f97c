-- `c_font_step_any::any_step` meets its contract: the step is told.
-- Assumes nothing.
use mathlib.Core.Path.{◌≡◌, sym, ap, subst, ◌∙◌}
use Prim.Native.Nat.{◌≤◌}
use lib.ListN.{length}
use Rattle.words.proofs.Bits.{number_word}
use Rattle.captions.specs.Replies.{answer_reply}
use Rattle.word_items.specs.ItemLists.{Small}
use Rattle.font_runs.specs.declared.FontStep.{FontStep}
use Rattle.font_runs.specs.Requests.{LentFont, lending}
use Rattle.font_runs.specs.Changes.{font_step}
use Rattle.c_font_runs.specs.RunLists.{run_read}
use Rattle.c_font_step_any.specs.FontSteps.{font_step_in, TellsStep}
use Rattle.c_font_step_any.proofs.Small.{font_small, taken_long}
use borrow.Author.Rules.{rules}
use Rattle.c_font_step_any.proofs.any_step.Statement.{statement}
use Rattle.c_font_step_any.proofs.any_step.Tie as tie

abbrev font : tie.Start → LentFont
font s = lending s.args.pairs.now s.args.ops.now s.args.boundary

abbrev other : tie.Start → LentFont
other s = lending s.args.asked_pairs.now s.args.asked_ops.now s.args.asked_boundary

-- the step from the run in the list, of the boundary characters as they were lent
stepped : (c : tie.After-font_step-stepped) → let s = c.before.before.before.before in
    c.font_step-stepped.result ≡ font_step_in (font (c.before.before.before.before)) (other (c.before.before.before.before)) c.args.word.now c.args.options c.args.run.now
stepped c =
    let s = c.before.before.before.before in
    let a = c.args in
    c.font_step-stepped.ensures
    ∙ (λ j. font_step (lending a.pairs.now a.ops.now (number_word a.boundary c.ranges.boundary j))
    (lending a.asked_pairs.now a.asked_ops.now (number_word a.asked_boundary c.ranges.asked_boundary j)) a.word.now a.options
    (c.run_in-from.ensures j))

run-in-requires : tie.Need-run_in-from-requires
run-in-requires c κs = search rules

font-step-requires : tie.Need-font_step-stepped-requires
font-step-requires c κs = search rules

tell-step-requires : tie.Need-tell_step-requires
tell-step-requires c κs =
    let a = c.args in
    subst (λ (t : FontStep). Small t.answer × ((answer_reply t.answer).number ≡ 0 → 12 ≤ length a.run.now)) (sym (stepped (c.before.before)))
    (font_small (font (c.before.before.before.before.before.before)) (other (c.before.before.before.before.before.before)) a.word.now a.options (run_read a.run.now), taken_long (font (c.before.before.before.before.before.before)) (other (c.before.before.before.before.before.before)) a.word.now a.options a.run.now)

same_length : tie.Need-shape_of-run
same_length c = search rules

same-length-2 : tie.Need-shape_of-item
same-length-2 c = search rules

returns : tie.Need-returns
returns c =
    let a = c.args in
    subst (λ (q : FontStep). TellsStep q a.run.now a.item.now c.tell_step.result c.tell_step.new.run c.tell_step.new.item) (stepped (c.before.before.before.before.before.before))
    c.tell_step.ensures

pub any_step_spec : {M : Type 1} → statement M
any_step_spec =
    tie.close
    (tie.spec
    run-in-requires
    font-step-requires
    tell-step-requires
    same_length
    same-length-2
    returns)
