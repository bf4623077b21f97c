-- `compile::font_refusal` meets its contract: the first refusal that is not 0.
-- Assumes nothing.
use mathlib.Core.Path.{sym, ◌∙◌}
use Rattle.words.proofs.Bits.{number_word}
use Rattle.lang.specs.Checks.{or_else, absent_refusal, design_refusal}
use Rattle.lang.proofs.Checks.{first_is, second_is}
use borrow.Author.Rules.{rules}
use Rattle.compile.proofs.font_refusal.Statement.{statement}
use Rattle.compile.proofs.font_refusal.Tie as tie

program-refusal-requires : tie.Need-program_refusal-program-requires
program-refusal-requires c κs = search rules

returns : tie.Need-returns-then-program-ne0
returns c =
    let e = c.program_refusal-program.ensures in
    e ∙ sym (first_is _ _ (λ h. c.if-program-ne0.true (e ∙ h)))

kerns-refusal-requires : tie.Need-kerns_refusal-of_kerns-requires
kerns-refusal-requires c κs = search rules

returns-2 : tie.Need-returns-then-of_kerns-ne0
returns-2 c =
    let d = c.program_refusal-program.ensures in
    let e = c.kerns_refusal-of_kerns.ensures in
    e ∙ sym (first_is _ _ (λ h. c.if-of_kerns-ne0.true (e ∙ h))) ∙ sym (second_is _ _ (sym d ∙ c.if-program-ne0.false))

entries-refusal-requires : tie.Need-entries_refusal-of_entries-requires
entries-refusal-requires c κs = search rules

returns-3 : tie.Need-returns-then-of_entries-ne0
returns-3 c =
    let d = c.program_refusal-program.ensures in
    let k = c.kerns_refusal-of_kerns.ensures in
    let e = c.entries_refusal-of_entries.ensures in
    e ∙ sym (first_is _ _ (λ h. c.if-of_entries-ne0.true (e ∙ h))) ∙ sym (second_is _ _ (sym k ∙ c.if-of_kerns-ne0.false))
    ∙ sym (second_is _ _ (sym d ∙ c.if-program-ne0.false))

edge-refusal-requires : tie.Need-edge_refusal-requires
edge-refusal-requires c κs = search rules

returns-4 : tie.Need-returns
returns-4 c =
    let a = c.args in
    let d = c.program_refusal-program.ensures in
    let k = c.kerns_refusal-of_kerns.ensures in
    let e = c.entries_refusal-of_entries.ensures in
    let x = number_word a.boundary c.ranges.boundary in
    let y = number_word a.left_entry c.ranges.left_entry in
    let z = number_word a.design_size c.ranges.design_size in
    c.edge_refusal.ensures
    ∙ (λ i. or_else (absent_refusal 255 (x i)) (or_else (absent_refusal 65535 (y i)) (design_refusal (z i))))
    ∙ sym (second_is _ _ (sym e ∙ c.if-of_entries-ne0.false))
    ∙ sym (second_is _ _ (sym k ∙ c.if-of_kerns-ne0.false))
    ∙ sym (second_is _ _ (sym d ∙ c.if-program-ne0.false))

pub font_refusal_spec : {M : Type 1} → statement M
font_refusal_spec =
    tie.close
    (tie.spec
    program-refusal-requires
    returns
    kerns-refusal-requires
    returns-2
    entries-refusal-requires
    returns-3
    edge-refusal-requires
    returns-4)
