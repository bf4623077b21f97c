-- What a stage of compiling promises of a font, of the font as it was lent: a left entry and a design size that are passed on show as their bits and back.
-- Assumes nothing.
use mathlib.Core.Path.{◌≡◌, subst}
use mathlib.Core.List.{List}
use lib.IntN.{ℤ}
use Rattle.fonts.specs.Fonts.{Font, font_of}

pub lent_as : {A : Type 0} (P : Font → A → Type 0) (s kerns entries : List ℤ) (b l l' d d' : ℤ) (u t : A) → P (font_of s kerns entries b l d) u → u ≡ t →
    l ≡ l' → d ≡ d' → P (font_of s kerns entries b l' d') t
lent_as P s kerns entries b l l' d d' u t h e p q =
    subst (λ (x : ℤ). P (font_of s kerns entries b l' x) t) q
    (subst (λ (x : ℤ). P (font_of s kerns entries b x d) t) p (subst (P (font_of s kerns entries b l d)) e h))
