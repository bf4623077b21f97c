-- `text_convert_refusal::said_refusal` meets its contract: the lower of two numbers, with the heads' numbers as they are lent. Assumes nothing.
use mathlib.Core.Path.{◌∙◌}
use borrow.Author.Rules.{rules}
use Rattle.words.proofs.Bits.{number_word}
use Rattle.lang.specs.Checks.{lower}
use Rattle.fonts.specs.Fonts.{font_of}
use Rattle.fonts.specs.Compiled.{font_refusal}
use Rattle.text_convert_refusal.proofs.said_refusal.Statement.{statement}
use Rattle.text_convert_refusal.proofs.said_refusal.Tie as tie

font-refusal-requires : tie.Need-font_refusal-of_font-requires
font-refusal-requires c κs = search rules

signs-refusal-requires : tie.Need-signs_refusal-requires
signs-refusal-requires c κs = search rules

lower-of-requires : tie.Need-lower_of-requires
lower-of-requires c κs = search rules

returns : tie.Need-returns
returns c =
    let a = c.args in
    let h = a.heads in
    let b = number_word h.boundary (record { sfits = c.struct_told-1.given.1.0.1 }) in
    let e = number_word h.left (record { sfits = c.struct_told-1.given.1.1.0.1 }) in
    let d = number_word h.design (record { sfits = c.struct_told-1.given.0.1 }) in
    let font = c.font_refusal-of_font.ensures
    ∙ (λ i. font_refusal (font_of a.instructions.now a.kerns.now a.entries.now (b i) (e i) (d i))) in
    let signs = c.signs_refusal.ensures in
    c.lower_of.ensures ∙ (λ i. lower (font i) (signs i))

pub said_refusal_spec : {M : Type 1} → statement M
said_refusal_spec =
    tie.close
    (tie.spec
    font-refusal-requires
    signs-refusal-requires
    lower-of-requires
    returns)
