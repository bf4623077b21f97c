-- `caption_run::steps::turned_step` meets its contract: it is refused, or runs.
-- Assumes nothing.
use mathlib.Core.Path.{◌≡◌, ◌∙◌}
use Rattle.words.specs.Words.{number_of}
use Rattle.words.proofs.Bits.{number_word}
use Rattle.captions.specs.Steps.{right_item, or_boundary}
use Rattle.caption_run.proofs.StepLaws.{refused_edges, refused_word, step_given}
use borrow.Author.Rules.{rules}
use Rattle.caption_run.proofs.steps.turned_step.Statement.{statement}
use Rattle.caption_run.proofs.steps.turned_step.Tie as tie

right : (c : tie.After-right_item-right) → let a = c.args in
    or_boundary (number_of c.right_item-right.result) ≡ right_item a.boundary a.options.right_boundary_override
right c =
    let a = c.before.before.before.before.before.before.before in
    c.right_item-right.ensures
    ∙ (λ i. right_item (number_word a.args.boundary a.ranges.boundary i)
    (number_word a.args.options.right_boundary_override (record { sfits = search rules }) i))

edges-refusal-requires : tie.Need-edges_refusal-edges-requires
edges-refusal-requires c κs = search rules

returns : tie.Need-returns-then-edges-ne0
returns c =
    refused_edges c.args.pairs.now c.args.ops.now c.args.boundary c.args.word.now c.args.options c.args.state c.ranges.boundary
    c.edges_refusal-edges.result c.edges_refusal-edges.ensures c.if-edges-ne0.true

word-refusal-requires : tie.Need-word_refusal-letters-requires
word-refusal-requires c κs = search rules

returns-2 : tie.Need-returns-then-letters-ne0
returns-2 c =
    refused_word c.args.pairs.now c.args.ops.now c.args.boundary c.args.word.now c.args.options c.args.state c.ranges.boundary
    c.edges_refusal-edges.result c.edges_refusal-edges.ensures
    c.if-edges-ne0.false c.word_refusal-letters.result c.word_refusal-letters.ensures c.if-letters-ne0.true

right-item-requires : tie.Need-right_item-right-requires
right-item-requires c κs = search rules

run-requires : tie.Need-run-given-requires
run-requires c κs = search rules

hand-back-requires : tie.Need-hand_back-requires
hand-back-requires c κs = search rules

returns-3 : tie.Need-returns
returns-3 c =
    rw c.hand_back.ensures
    (step_given c.args.pairs.now c.args.ops.now c.args.boundary c.args.word.now c.args.options c.args.state c.ranges.boundary
    c.edges_refusal-edges.result c.edges_refusal-edges.ensures
    c.if-edges-ne0.false c.word_refusal-letters.result c.word_refusal-letters.ensures (or_boundary (number_of c.right_item-right.result)) c.run-given.result
    c.if-letters-ne0.false (right (c.before.before)) c.run-given.ensures)

pub turned_step_spec : {M : Type 1} → statement M
turned_step_spec =
    tie.close
    (tie.spec
    edges-refusal-requires
    returns
    word-refusal-requires
    returns-2
    right-item-requires
    run-requires
    hand-back-requires
    returns-3)
