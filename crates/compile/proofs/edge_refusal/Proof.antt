-- `compile::edge_refusal` meets its contract: the first refusal that is not 0.
-- Assumes nothing.
use mathlib.Core.Path.{sym, ap, ◌∙◌}
use Rattle.words.proofs.Bits.{number_word}
use Rattle.lang.specs.Checks.{absent_refusal, design_refusal}
use Rattle.lang.proofs.Checks.{first_is, second_is}
use borrow.Author.Rules.{rules}
use Rattle.compile.proofs.edge_refusal.Statement.{statement}
use Rattle.compile.proofs.edge_refusal.Tie as tie

absent-refusal-requires : tie.Need-absent_refusal-at_boundary-requires
absent-refusal-requires c κs = search rules

returns : tie.Need-returns-then-at_boundary-ne0
returns c =
    let e = c.absent_refusal-at_boundary.ensures ∙ ap (absent_refusal 255) (number_word c.args.boundary c.ranges.boundary) in
    e ∙ sym (first_is _ _ (λ h. c.if-at_boundary-ne0.true (e ∙ h)))

absent-refusal-requires-2 : tie.Need-absent_refusal-at_left-requires
absent-refusal-requires-2 c κs = search rules

returns-2 : tie.Need-returns-then-at_left-ne0
returns-2 c =
    let d = c.absent_refusal-at_boundary.ensures
    ∙ ap (absent_refusal 255) (number_word c.args.boundary c.ranges.boundary) in
    let e = c.absent_refusal-at_left.ensures
    ∙ ap (absent_refusal 65535) (number_word c.args.left_entry c.ranges.left_entry)
    in
    e ∙ sym (first_is _ _ (λ h. c.if-at_left-ne0.true (e ∙ h))) ∙ sym (second_is _ _ (sym d ∙ c.if-at_boundary-ne0.false))

design-refusal-requires : tie.Need-design_refusal-requires
design-refusal-requires c κs = search rules

returns-3 : tie.Need-returns
returns-3 c =
    let d = c.absent_refusal-at_boundary.ensures
    ∙ ap (absent_refusal 255)
    (number_word c.args.boundary c.ranges.boundary) in
    let e = c.absent_refusal-at_left.ensures
    ∙ ap (absent_refusal 65535)
    (number_word c.args.left_entry c.ranges.left_entry) in
    c.design_refusal.ensures
    ∙ ap design_refusal
    (number_word c.args.design_size c.ranges.design_size)
    ∙ sym (second_is _ _ (sym e ∙ c.if-at_left-ne0.false)) ∙ sym (second_is _ _ (sym d ∙ c.if-at_boundary-ne0.false))

pub edge_refusal_spec : {M : Type 1} → statement M
edge_refusal_spec =
    tie.close
    (tie.spec
    absent-refusal-requires
    returns
    absent-refusal-requires-2
    returns-2
    design-refusal-requires
    returns-3)
