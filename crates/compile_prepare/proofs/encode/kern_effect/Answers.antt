use Rattle.std.proofs.Common.{◌≡◌, sym, ap, ◌∙◌, rules}
use mir.Syntax.{w32}
use mir.Val.{SFits}
use Rattle.words.specs.Words.{word_of, number_of}
use Rattle.words.proofs.Bits.{number_word}
use Rattle.tfm.specs.Scaled.{to_scaled}
use Rattle.tfm.proofs.Replies.{scaled_injective}
use Rattle.compiling.proofs.EncodeLaws.{kern_scaled}
use Rattle.compile_prepare.proofs.encode.kern_effect.Goals as goal

-- the kern's value is the word of what scaling answers
pub returns-in-Ok : goal.returns-in-Ok
returns-in-Ok c =
    let a = c.args in
    let v = c.in-Ok.v in
    let f : SFits w32 v = search rules in
    let told : c.at_design_size.result ≡ to_scaled a.kern.0 a.design_size = scaled_injective c.at_design_size.result
    (to_scaled a.kern.0 (number_of (word_of a.design_size))) c.at_design_size.ensures
    ∙ ap (to_scaled a.kern.0) (number_word a.design_size c.ranges.design_size) in
    kern_scaled (to_scaled a.kern.0 a.design_size) v _ (sym told ∙ c.in-Ok.is) (c.word_of.ensures ∙ ap word_of (number_word v f))
