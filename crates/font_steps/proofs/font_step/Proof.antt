-- `font_steps::font_step` meets its contract: by what is asked for.
-- Assumes nothing.
use mathlib.Core.Path.{◌≡◌, sym, ap, ◌∙◌}
use lib.IntN.{ℤ}
use Rattle.std.specs.Prelude.{Some}
use Rattle.words.specs.Words.{word_of, number_of}
use Rattle.words.proofs.Bits.{number_word}
use Rattle.captions.specs.Steps.{step_of}
use Rattle.captions.proofs.Replies.{stepped_is}
use Rattle.font_runs.specs.Requests.{LentFont, lending}
use Rattle.font_runs.specs.Changes.{in_force, font_step_by}
use borrow.Author.Rules.{rules}
use Rattle.font_steps.proofs.font_step.Statement.{statement}
use Rattle.font_steps.proofs.font_step.Tie as tie

abbrev font : tie.Start → LentFont
font s = lending s.args.pairs.now s.args.ops.now s.args.boundary

abbrev other : tie.Start → LentFont
other s = lending s.args.asked_pairs.now s.args.asked_ops.now s.args.asked_boundary

enum_told : tie.Need-enum_told-1
enum_told c = search rules

step-requires : tie.Need-step-kept-requires
step-requires c κs = search rules

in-force-requires : tie.Need-in_force-requires
in-force-requires c κs = search rules

enum-known-asked : tie.Need-enum_known-asked
enum-known-asked c = search rules

waiting-step-requires : tie.Need-waiting_step-requires
waiting-step-requires c κs = search rules

returns : tie.Need-returns-in-None
returns c =
    let a = c.args in
    c.in_force.ensures
    ∙ ap (in_force a.run)
    (stepped_is a.pairs.now a.ops.now (number_of (word_of a.boundary)) a.word.now a.options a.run.state c.step-kept.ensures
    ∙ ap (λ (z : ℤ). step_of a.pairs.now a.ops.now z a.word.now a.options a.run.state) (number_word a.boundary c.ranges.boundary))
    ∙ ap (font_step_by (font (c.before.before.before.before.before)) (other (c.before.before.before.before.before)) a.word.now a.options a.run) (sym c.in-None.is)

returns-2 : tie.Need-returns-in-Some
returns-2 c =
    let a = c.args in
    c.waiting_step.ensures
    ∙ (λ j. font_step_by (lending a.pairs.now a.ops.now (number_word a.boundary c.ranges.boundary j))
    (lending a.asked_pairs.now a.asked_ops.now (number_word a.asked_boundary c.ranges.asked_boundary j))
    a.word.now a.options a.run
    (Some c.in-Some.n))
    ∙ ap (font_step_by (font (c.before.before.before)) (other (c.before.before.before)) a.word.now a.options a.run) (sym c.in-Some.is)

pub font_step_spec : {M : Type 1} → statement M
font_step_spec =
    tie.close
    (tie.spec
    enum_told
    step-requires
    in-force-requires
    enum-known-asked
    waiting-step-requires
    returns
    returns-2)
