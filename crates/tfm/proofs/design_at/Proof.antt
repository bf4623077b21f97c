-- `tfm::design_at` meets its contract: a negative design size is itself, and any other goes by the words.
-- Assumes nothing.
use mathlib.Core.Path.{◌≡◌, ap, ◌∙◌}
use Prim.Native.Nat.{◌^◌, ◌<◌, ◌≤◌}
use native.Mathlib.Omega.{arith}
use lib.IntN.{ℤ, pos, negsuc}
use mir.Syntax.{w32}
use mir.Val.{SFits}
use borrow.Author.Rules.{rules}
use Rattle.words.specs.Words.{word_of, number_of}
use Rattle.words.proofs.Bits.{number_word, number_pos}
use Rattle.tfm.specs.Scaled.{design_word, design_at}
use Rattle.tfm.proofs.Sizes.{word_as, word_below, design_fits}
use Rattle.tfm.proofs.design_at.Statement.{statement}
use Rattle.tfm.proofs.design_at.Tie as tie

negative : (d s m : ℤ) → SFits w32 d → 2 ^ 31 ≤ word_of d → number_of (word_of d) ≡ design_at d s m
unfolding design_at
negative (pos n) s m f h = absurd (omega (arith, f.sfits))
negative (negsuc n) s m f h = number_word (negsuc n) f

by_words : (d s m : ℤ) → SFits w32 d → word_of d < 2 ^ 31 → number_of (design_word (word_of d) (word_of s) (word_of m)) ≡ design_at d s m
unfolding design_at
by_words (pos n) s m f h = number_pos (design_word n (word_of s) (word_of m)) (word_below n (word_of s) (word_of m) h)
by_words (negsuc n) s m f h = absurd (omega (arith, f.sfits))

word-of-requires : tie.Need-word_of-design-requires
word-of-requires c κs = search rules

returns : tie.Need-returns-then-design-ge2147483648
returns c =
    let s = c.before.before in
    let a = s.args in
    let d = word_as c.word_of-design.ensures s.ranges.design_size in
    negative a.design_size a.size a.magnification s.ranges.design_size (rw d at c.if-design-ge2147483648.true)

word-of-requires-2 : tie.Need-word_of-requires
word-of-requires-2 c κs = search rules

word-of-requires-3 : tie.Need-word_of-requires-2
word-of-requires-3 c κs = search rules

design-word-requires : tie.Need-design_word-requires
design-word-requires c κs = search rules

number-of-requires : tie.Need-number_of-requires
number-of-requires c κs = search rules

returns-2 : tie.Need-returns
returns-2 c =
    let w = c.before in
    let i = w.before.before.before in
    let s = i.before.before in
    let a = s.args in
    let f = s.ranges in
    let d = word_as i.word_of-design.ensures f.design_size in
    let x = word_as w.word_of.ensures f.size in
    let y = word_as w.word_of-2.ensures f.magnification in
    let e = w.design_word.ensures ∙ (λ j. design_word (d j) (x j) (y j)) in
    let h = by_words a.design_size a.size a.magnification f.design_size (rw d at i.if-design-ge2147483648.false) in
    ap (λ (z : ℤ). number_of (word_of z)) (c.number_of.ensures ∙ ap number_of e ∙ h)
    ∙ number_word (design_at a.design_size a.size a.magnification) (design_fits a.design_size a.size a.magnification f.design_size)

pub design_at_spec : {M : Type 1} → statement M
design_at_spec =
    tie.close
    (tie.spec
    word-of-requires
    returns
    word-of-requires-2
    word-of-requires-3
    design-word-requires
    number-of-requires
    returns-2)
