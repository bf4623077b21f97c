-- `caption_run::edges::edges_refusal` meets its contract: the first of two numbers that is not 0.
-- Assumes nothing.
use mathlib.Core.Path.{◌≡◌, sym, ap, ◌∙◌}
use mir.Syntax.{w32}
use mir.Val.{SFits}
use Rattle.words.proofs.Bits.{number_word}
use Rattle.lang.specs.Checks.{absent_refusal}
use Rattle.lang.proofs.Checks.{first_is, second_is}
use Rattle.captions.proofs.Passed.{absent_passed}
use borrow.Author.Rules.{rules}
use Rattle.caption_run.proofs.edges.edges_refusal.Statement.{statement}
use Rattle.caption_run.proofs.edges.edges_refusal.Tie as tie

edge : (c : tie.After-absent_refusal-edge) → c.absent_refusal-edge.result ≡ absent_refusal 255 c.args.boundary
edge c = absent_passed c.ranges.boundary c.absent_refusal-edge.ensures

-- the override of the options that were passed is an i32
override_fits_lem : (c : tie.After-struct_told-1) → SFits w32 c.args.options.right_boundary_override
override_fits_lem c = record { sfits = c.struct_told-1.given.1.0.1 }

absent-refusal-requires : tie.Need-absent_refusal-edge-requires
absent-refusal-requires c κs = search rules

returns : tie.Need-returns-then-edge-ne0
returns c = let e = edge c.before in e ∙ sym (first_is _ _ (λ h. c.if-edge-ne0.true (e ∙ h)))

low-refusal-requires : tie.Need-low_refusal-requires
low-refusal-requires c κs = search rules

returns-2 : tie.Need-returns
returns-2 c =
    c.low_refusal.ensures
    ∙ ap (absent_refusal 2147483647) (number_word _ (override_fits_lem c.before)) ∙ sym (second_is _ _ (sym (edge c.before.before.before) ∙ c.if-edge-ne0.false))

pub edges_refusal_spec : {M : Type 1} → statement M
edges_refusal_spec =
    tie.close
    (tie.spec
    absent-refusal-requires
    returns
    low-refusal-requires
    returns-2)
