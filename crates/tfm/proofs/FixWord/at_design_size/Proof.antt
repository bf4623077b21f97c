-- `tfm::FixWord::at_design_size` meets its contract: the design size's word is from 2 ^ 31 on exactly where it is negative.
-- Assumes nothing.
use mathlib.Core.Path.{◌≡◌, refl, ap, ◌∙◌}
use Prim.Native.Nat.{ℕ, ◌^◌, ◌≤◌, ◌<◌}
use native.Mathlib.Omega.{arith}
use lib.IntN.{ℤ, pos, negsuc}
use lib.Signed.{mag}
use borrow.Author.Rules.{rules}
use Rattle.words.specs.Words.{word_of, number_of}
use Rattle.words.proofs.Bits.{number_word}
use Rattle.std.specs.Prelude.{Err}
use Rattle.tfm.specs.declared.ScalingError.TheVariants.{NegativeDesignSize}
use Rattle.tfm.specs.Scaled.{scaled_reply, to_scaled, z_of_design, scaled_from}
use Rattle.tfm.proofs.FixWord.at_design_size.Statement.{statement}
use Rattle.tfm.proofs.FixWord.at_design_size.Tie as tie

-- what word_of gives for a field, which holds the number's bits
word_is : (x : ℤ) (w : ℕ) → mag x < 2 ^ 31 → w ≡ word_of (number_of (word_of x)) → w ≡ word_of x
word_is x w f e = e ∙ ap word_of (number_word x (record { sfits = f }))

negative : (kern design : ℤ) → mag design < 2 ^ 31 → 2 ^ 31 ≤ word_of design → Err NegativeDesignSize ≡ to_scaled kern design
unfolding to_scaled
negative kern (pos n) f h = absurd (omega arith)
negative kern (negsuc n) f h = refl

scaled : (kern design : ℤ) → mag design < 2 ^ 31 → word_of design < 2 ^ 31 → scaled_from (z_of_design (word_of design)) (word_of kern) ≡ to_scaled kern design
unfolding to_scaled
scaled kern (pos n) f h = refl
scaled kern (negsuc n) f h = absurd (omega arith)

word-of-requires : tie.Need-word_of-design-requires
word-of-requires c κs = search rules

returns : tie.Need-returns-then-design-ge2147483648
returns c =
    let s = c.before.before in
    let a = s.args in
    let f = s.struct_told-1.given.0.1 in
    let d = word_is a.design_size.0 c.word_of-design.result f c.word_of-design.ensures in
    ap scaled_reply (negative a.self.0 a.design_size.0 f (rw d at c.if-design-ge2147483648.true))

word-of-requires-2 : tie.Need-word_of-word-requires
word-of-requires-2 c κs = search rules

z-of-design-requires : tie.Need-z_of_design-requires
z-of-design-requires c κs = search rules

scaled-from-requires : tie.Need-scaled_from-requires
scaled-from-requires c κs = search rules

returns-2 : tie.Need-returns
returns-2 c =
    let k = c.before.before.before in
    let n = k.before in
    let s = n.before.before in
    let a = s.args in
    let f = s.struct_told-1.given.0.1 in
    let d = word_is a.design_size.0 n.word_of-design.result f n.word_of-design.ensures in
    let w = word_is a.self.0 c.word_of-word.result k.struct_told-2-1.given.0.1 c.word_of-word.ensures in
    let x : c.scaled_from.result ≡ to_scaled a.self.0 a.design_size.0 =
    c.scaled_from.ensures ∙ rw (c.z_of_design.ensures, d, w) (scaled a.self.0 a.design_size.0 f (rw d at n.if-design-ge2147483648.false)) in
    ap scaled_reply x

pub at_design_size_spec : {M : Type 1} → statement M
at_design_size_spec =
    tie.close
    (tie.spec
    word-of-requires
    returns
    word-of-requires-2
    z-of-design-requires
    scaled-from-requires
    returns-2)
