-- How long a text becomes that is written anew.
use Rattle.std.specs.Prelude.{◌≡◌, List, ℕ, ◌+◌, ◌-◌, ◌*◌, ◌≤◌, ℤ, length, drop}
use Rattle.columns.specs.Lines.{lines_of}
use Rattle.text_convert_lines.specs.Anew.{lines_anew}

-- how long a text becomes that is read: 14 bytes for each kern past its own k
pub record LengthKnown (text : List ℕ) (k : ℕ) (s kerns : List ℤ) : Type 0 where
  pub own : k ≤ length kerns
  pub few : (length text ≤ 65536) × (length kerns ≤ 1024)
  pub long : length (lines_anew s (drop k kerns) (lines_of text)) ≡ length text + 14 * (length kerns - k)
