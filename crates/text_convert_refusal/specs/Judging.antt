-- The number of a text that is written anew (R465, R466), from what it says and how long it becomes.
use Rattle.std.specs.Prelude.{List, ℕ, ℤ, leb}
use Rattle.lang.specs.Every.{both}
use Rattle.lang.specs.Checks.{unless, or_else, lower}
use Rattle.lang.specs.Answers.{room_refusal}
use Rattle.fonts.specs.Fonts.{font_of}
use Rattle.fonts.specs.Compiled.{font_refusal}
use Rattle.columns.specs.declared.TextHeads.{TextHeads}
use Rattle.columns.specs.Ligcols.{signs_refusal}

-- of the font that a text says and of the signs of its letters, the lower
abbrev pub said_refusal : TextHeads → List ℤ → List ℤ → List ℤ → List ℕ → ℕ
said_refusal h s kerns entries word =
    lower (font_refusal (font_of s kerns entries h.boundary h.left h.design)) (signs_refusal word)

-- of a text with so many kerns that becomes n bytes: 16 of its limits; else the number of its font and signs; else 15; else that of its letters
abbrev pub anew_refusal : ℕ → ℕ → ℕ → ℕ → ℕ → ℕ
anew_refusal kerns n bad letters room =
    or_else (unless 16 (both (leb kerns 512) (leb n 65536))) (or_else bad (or_else (room_refusal n room) letters))
