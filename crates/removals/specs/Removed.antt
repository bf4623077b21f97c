-- A removal (R481): an instruction that matches no character, and keeps its next. A redirect is such a one: a chain passes over it and
-- goes on
-- at its next (R58, R60; TeX 1039: a step whose skip byte is above 128 does nothing). So a redirect that is removed alters nothing.
use Rattle.std.specs.Prelude.{List, ℕ, ◌+◌, ◌*◌, ℤ, pos, set}
use Rattle.tfm.specs.Scaled.{asked_refusal, design_at}
use Rattle.fonts.specs.Fonts.{Font, font_of}
use Rattle.removals.specs.declared.FontNumbers.{FontNumbers}

-- a list of instructions, four numbers each, without instruction i: it gets kind 3 and operand 0, and keeps next and right character
abbrev pub without_instruction : List ℤ → ℕ → List ℤ
without_instruction s i = set (set s (4 * i + 2) (pos 3)) (4 * i + 3) (pos 0)

-- the font without it
abbrev pub font_without : Font → ℕ → Font
font_without f i = font_of (without_instruction f.instructions i) f.kerns f.entries f.boundary f.left f.design

-- ---- a font by its lists and its numbers

-- its design size is that of the size asked for (R357)
abbrev pub font_at : List ℤ → List ℤ → List ℤ → FontNumbers → Font
font_at instructions kerns entries n =
    font_of instructions kerns entries n.boundary n.left_entry (design_at n.design_size n.size n.magnification)

-- the number of that size, 19 or 0 (R356)
abbrev pub size_number : FontNumbers → ℕ
size_number n = asked_refusal n.design_size n.size n.magnification
