-- `tfm::FixWord::to_scaled` meets its contract: scaling at the design size of the size, and the size's number (proofs/Sizes).
-- Assumes nothing.
use mathlib.Core.Path.{◌≡◌, ap, ◌∙◌}
use mir.Syntax.{w32}
use mir.Val.{SFits}
use borrow.Author.Rules.{rules}
use Rattle.words.specs.Words.{word_of, number_of}
use Rattle.tfm.specs.Scaled.{to_scaled, design_at, sized, scaled_reply}
use Rattle.tfm.proofs.Replies.{scaled_injective}
use Rattle.tfm.proofs.Sizes.{refusal_as, design_as, at_design}
use Rattle.tfm.proofs.FixWord.to_scaled.Statement.{statement}
use Rattle.tfm.proofs.FixWord.to_scaled.Tie as tie

design-at-requires : tie.Need-design_at-requires
design-at-requires c κs = search rules

asked-refusal-requires : tie.Need-asked_refusal-number-requires
asked-refusal-requires c κs = search rules

at-design-size-requires : tie.Need-at_design_size-requires
at-design-size-requires c κs = search rules

size-scaled-requires : tie.Need-size_scaled-requires
size-scaled-requires c κs = search rules

returns : tie.Need-returns
returns c =
    let k = c.before in
    let q = k.before in
    let d = q.before.before in
    let s = d.before.before in
    let a = s.args in
    let f : SFits w32 a.design_size.0 = record { sfits = d.struct_told-1.given.0.1 } in
    let n = refusal_as a.design_size.0 a.size a.magnification f s.ranges.size s.ranges.magnification q.asked_refusal-number.ensures in
    let e = design_as a.design_size.0 a.size a.magnification f s.ranges.size s.ranges.magnification d.design_at.ensures in
    let t : k.at_design_size.result ≡ to_scaled a.self.0 (design_at a.design_size.0 a.size a.magnification) =
    scaled_injective _ (to_scaled a.self.0 (number_of (word_of d.design_at.result))) k.at_design_size.ensures ∙ ap (to_scaled a.self.0) e in
    ap scaled_reply (c.size_scaled.ensures ∙ (λ i. sized (n i) (t i)) ∙ at_design a.self.0 a.design_size.0 a.size a.magnification)

pub to_scaled_spec : {M : Type 1} → statement M
to_scaled_spec =
    tie.close
    (tie.spec
    design-at-requires
    asked-refusal-requires
    at-design-size-requires
    size-scaled-requires
    returns)
