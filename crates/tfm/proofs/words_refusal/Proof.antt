-- `tfm::words_refusal` meets its contract: proofs/Sizes.
-- Assumes nothing.
use mathlib.Core.Path.{ap, ◌∙◌}
use native.Mathlib.Omega.{arith}
use borrow.Author.Rules.{rules}
use Rattle.tfm.specs.Scaled.{z_refusal}
use Rattle.tfm.proofs.Sizes.{refused_two, refused_size, refused_none, refused_large, refused_magnified}
use Rattle.tfm.proofs.words_refusal.Statement.{statement}
use Rattle.tfm.proofs.words_refusal.Tie as tie

returns : tie.Need-returns-then-magnification-ne0
returns c = let a = c.args in refused_two a.design a.size a.magnification c.if-size-ne0.true (λ e. omega arith)

z-refusal-requires : tie.Need-z_refusal-requires
z-refusal-requires c κs = search rules

returns-2 : tie.Need-returns-then-size-ne0
returns-2 c =
    let a = c.args in
    c.z_refusal.ensures ∙ refused_size a.design a.size a.magnification c.if-size-ne0.true (omega arith)

returns-3 : tie.Need-returns-then-magnification-eq0
returns-3 c = let a = c.args in refused_none a.design a.size a.magnification c.if-size-ne0.false c.if-magnification-eq0.true

returns-4 : tie.Need-returns-then-magnification-gt32768
returns-4 c =
    let a = c.args in
    refused_large a.design a.size a.magnification c.if-size-ne0.false c.if-magnification-gt32768.true

magnify-requires : tie.Need-magnify-requires
magnify-requires c κs = search rules

z-refusal-requires-2 : tie.Need-z_refusal-requires-2
z-refusal-requires-2 c κs = search rules

returns-5 : tie.Need-returns
returns-5 c =
    let t = c.before.before in
    let a = t.args in
    c.z_refusal-2.ensures ∙ ap z_refusal c.magnify.ensures
    ∙ refused_magnified a.design a.size a.magnification t.if-size-ne0.false t.if-magnification-eq0.false t.if-magnification-gt32768.false

pub words_refusal_spec : {M : Type 1} → statement M
words_refusal_spec =
    tie.close
    (tie.spec
    returns
    z-refusal-requires
    returns-2
    returns-3
    returns-4
    magnify-requires
    z-refusal-requires-2
    returns-5)
