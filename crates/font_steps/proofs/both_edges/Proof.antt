-- `font_steps::both_edges` meets its contract: the first of two numbers that is not 0.
-- Assumes nothing.
use mathlib.Core.Path.{◌≡◌, ap, ◌∙◌}
use Rattle.words.proofs.Bits.{number_word}
use Rattle.lang.specs.Checks.{absent_refusal}
use Rattle.lang.proofs.Refusals.{first_refusal, later_refusal_lem}
use borrow.Author.Rules.{rules}
use Rattle.font_steps.proofs.both_edges.Statement.{statement}
use Rattle.font_steps.proofs.both_edges.Tie as tie

absent-refusal-requires : tie.Need-absent_refusal-edge-requires
absent-refusal-requires c κs = search rules

returns : tie.Need-returns-then-edge-ne0
returns c =
    first_refusal _ (c.absent_refusal-edge.ensures ∙ ap (absent_refusal 255) (number_word c.args.boundary c.ranges.boundary)) c.if-edge-ne0.true

absent-refusal-requires-2 : tie.Need-absent_refusal-requires
absent-refusal-requires-2 c κs = search rules

returns-2 : tie.Need-returns
returns-2 c =
    later_refusal_lem (c.absent_refusal-edge.ensures ∙ ap (absent_refusal 255) (number_word c.args.boundary c.ranges.boundary)) c.if-edge-ne0.false
    (c.absent_refusal.ensures ∙ ap (absent_refusal 255) (number_word c.args.asked_boundary c.ranges.asked_boundary))

pub both_edges_spec : {M : Type 1} → statement M
both_edges_spec =
    tie.close
    (tie.spec
    absent-refusal-requires
    returns
    absent-refusal-requires-2
    returns-2)
