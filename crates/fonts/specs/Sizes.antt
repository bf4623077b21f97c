-- A font at another design size: what is proved of its loops and its refusals (proofs/Theorems). No contract cites this.
use Rattle.std.specs.Prelude.{◌≡◌, ℕ, ℤ, pos}
use Rattle.fonts.specs.Fonts.{Font, font_of}
use Rattle.fonts.specs.Compiled.{Room, loops_of_font, tables_refusal}

-- the same font at another design size
abbrev pub at_size : Font → ℤ → Font
at_size f size = font_of f.instructions f.kerns f.entries f.boundary f.left size

-- its loops are the same, in the same order: the design size scales kerns alone, and a kern waits for nothing, whatever its value (R84 to
-- R86)
abbrev pub LoopsAtAnySize : Type 0
LoopsAtAnySize = (f : Font) (size : ℤ) → loops_of_font (at_size f size) ≡ loops_of_font f

-- 12 to 15 are the same at any two design sizes of 0 or more (R356): whether a kern scales goes by its top byte alone, and a pair has as
-- many ops whatever its kerns are scaled to
abbrev pub TablesAtAnySize : Type 0
TablesAtAnySize = (f : Font) (room : Room) (a b : ℕ) → tables_refusal (at_size f (pos a)) room ≡ tables_refusal (at_size f (pos b)) room
