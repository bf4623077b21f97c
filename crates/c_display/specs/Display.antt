-- The call for a host in C that writes a font as a property list. The answer is that of `display` (property_lists/specs/Displays); what is
-- added is 15 where there is no place for the length. That is known without the font, so it comes before 24: the lower number is told.
use Rattle.std.specs.Prelude.{◌≡◌, List, [], ◌∷◌, ℕ, ℤ, length}
use Rattle.lang.specs.Checks.{lower}
use Rattle.lang.specs.Answers.{room_refusal, list_of}
use Rattle.property_lists.specs.Displays.{display_text, display_refusal}

-- the number, with so many bytes for the text and so many places for the values
abbrev pub display_number : List ℤ → List ℤ → List ℤ → ℤ → ℤ → ℕ → ℕ → ℕ
display_number s kerns es boundary left room values = lower (room_refusal 1 values) (display_refusal s kerns es boundary left room)

-- THE contract of ligkern_display: the number; the text and zeros, and how many bytes it has, or zeros alone
pub record HostDisplays (s kerns es : List ℤ) (boundary left : ℤ) (text values : List ℕ) (r : ℕ) (text' values' : List ℕ) : Type 0 where
  pub number : r ≡ display_number s kerns es boundary left (length text) (length values)
  pub list : text' ≡ list_of r 0 (length text) (display_text s kerns es boundary left)
  pub told : values' ≡ list_of r 0 (length values) (length (display_text s kerns es boundary left) ∷ [])
