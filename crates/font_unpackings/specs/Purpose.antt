-- What taking packing back is for: theorem `unpacked-rules` of proofs/Theorems, and what it says of a file. No contract cites this.
use Rattle.std.specs.Prelude.{◌≡◌, List, ℕ, ℤ}
use Rattle.reading.specs.Items.{Left}
use Rattle.lang.specs.Checks.{program_refusal, entries_refusal, absent_refusal}
use Rattle.files.specs.Lengths.{lengths_refusal}
use Rattle.files.specs.Reading.{file_instructions, file_kerns, file_boundary, file_left}
use Rattle.fonts.specs.Fonts.{Font, font_of, rules_of}
use Rattle.file_fonts.specs.Meant.{meant_entries, meant_font, file_design}
use Rattle.file_fonts.specs.Purpose.{AreBytes}
use Rattle.font_unpackings.specs.Unpackings.{unpacked_program, own_entries, unpacked_left}

-- the font without what packing put beside its own instructions
abbrev pub font_unpacked : List ℤ → List ℤ → List ℤ → ℤ → ℤ → ℤ → Font
font_unpacked s kerns es boundary left design =
    font_of (unpacked_program s es left) kerns (own_entries s es left) boundary (unpacked_left s es left) design

-- Of every font whose program, entries and left entry are none of 1, 2 and 4: each pair has the rule that it had.
abbrev pub UnpackedRules : Type 0
UnpackedRules =
    (s kerns es : List ℤ) (boundary left design : ℤ) → program_refusal s ≡ 0 → entries_refusal 65535 es ≡ 0 → absent_refusal 65535 left ≡ 0 →
    (x : Left) (y : ℕ) →
    rules_of (font_unpacked s kerns es boundary left design) x y ≡ rules_of (font_of s kerns es boundary left design) x y

-- So of every file that is not refused: the font that `unpacked_font` gives of what was read has the rules of the font that the file means.
abbrev pub UnpackedFile : Type 0
UnpackedFile =
    (file : List ℕ) → AreBytes file → lengths_refusal file ≡ 0 → (x : Left) (y : ℕ) →
    rules_of (font_unpacked (file_instructions file) (file_kerns file) (meant_entries file) (file_boundary file) (file_left file) (file_design file))
    x y ≡ rules_of (meant_font file) x y
