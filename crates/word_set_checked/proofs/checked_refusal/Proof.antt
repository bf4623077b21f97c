-- `word_set_checked::checked_refusal` meets its contract: the first of four numbers that is not 0.
-- Assumes nothing.
use mathlib.Core.Path.{◌≡◌, ap, ◌∙◌}
use lib.IntN.{ℤ}
use Rattle.words.proofs.Bits.{number_word}
use Rattle.lang.proofs.Refusals.{first_refusal, later_refusal_lem}
use Rattle.captions.specs.Begin.{edges_refusal, override_refusal}
use borrow.Author.Rules.{rules}
use Rattle.word_set_checked.proofs.checked_refusal.Statement.{statement}
use Rattle.word_set_checked.proofs.checked_refusal.Tie as tie

edges : (c : tie.After-edges_refusal-edges) → c.edges_refusal-edges.result ≡ edges_refusal c.args.boundary c.args.options
edges c =
    c.edges_refusal-edges.ensures ∙ ap (λ (z : ℤ). edges_refusal z c.args.options) (number_word c.args.boundary c.ranges.boundary)

edges-refusal-requires : tie.Need-edges_refusal-edges-requires
edges-refusal-requires c κs = search rules

returns : tie.Need-returns-then-edges-ne0
returns c = first_refusal _ (edges c.before) c.if-edges-ne0.true

word-refusal-requires : tie.Need-word_refusal-long-requires
word-refusal-requires c κs = search rules

returns-2 : tie.Need-returns-then-long-ne0
returns-2 c =
    later_refusal_lem (edges c.before.before.before) c.if-edges-ne0.false (first_refusal _ c.word_refusal-long.ensures c.if-long-ne0.true)

letters-refusal-requires : tie.Need-letters_refusal-letters-requires
letters-refusal-requires c κs = search rules

returns-3 : tie.Need-returns-then-letters-ne0
returns-3 c =
    later_refusal_lem (edges c.before.before.before.before.before) c.if-edges-ne0.false
    (later_refusal_lem c.word_refusal-long.ensures c.if-long-ne0.false (first_refusal _ c.letters_refusal-letters.ensures c.if-letters-ne0.true))

override-refusal-requires : tie.Need-override_refusal-requires
override-refusal-requires c κs = search rules

returns-4 : tie.Need-returns
returns-4 c =
    later_refusal_lem (edges c.before.before.before.before.before.before.before) c.if-edges-ne0.false
    (later_refusal_lem c.word_refusal-long.ensures c.if-long-ne0.false
    (later_refusal_lem c.letters_refusal-letters.ensures c.if-letters-ne0.false
    (c.override_refusal.ensures
    ∙ ap override_refusal
    (number_word c.args.options.right_boundary_override (record { sfits = c.struct_told-1.given.1.0.1 })))))

pub checked_refusal_spec : {M : Type 1} → statement M
checked_refusal_spec =
    tie.close
    (tie.spec
    edges-refusal-requires
    returns
    word-refusal-requires
    returns-2
    letters-refusal-requires
    returns-3
    override-refusal-requires
    returns-4)
