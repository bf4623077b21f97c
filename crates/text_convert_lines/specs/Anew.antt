-- A text written anew, line by line (R464): where a line ends, what is written for it, and what is left in the list. The lines are those of
-- columns/specs/Converting.
use Rattle.std.specs.Prelude.{◌≡◌, Bool, true, false, not, cond, List, [], ◌∷◌, ◌++◌, ℕ, suc, ◌+◌, ◌-◌, ◌≤◌, min, ℤ, leb, ltb, eqb, length, get_or, take, replicate}
use Rattle.std.proofs.Math.Option.{Option, none, some}
use Rattle.std.proofs.lemmas.List.Edits.{sets}
use Rattle.lang.specs.Answers.{list_of, room_refusal}
use Rattle.columns.specs.Lines.{text_of}
use Rattle.columns.specs.Converting.{instruction_line, converted_lines}

-- ---- where lines stand

-- nothing stands after the last line feed
abbrev pub is_whole_lines : List ℕ → Bool
is_whole_lines text = cond (eqb (length text) 0) true (eqb (get_or text (length text - 1) 0) 10)

-- how long the first line is, with its line feed; all there is where none ends it
unfoldable pub line_length : List ℕ → ℕ
line_length [] = 0
line_length (b ∷ bs) = cond (eqb b 10) 1 (suc (line_length bs))

-- there is a byte at a place, and it is not W
abbrev pub is_before_word : List ℕ → ℕ → Bool
is_before_word text at = cond (ltb at (length text)) (not (eqb (get_or text at 0) 87)) false

-- how many instructions the line at a place has: one where it begins with I
abbrev pub instructions_in : List ℕ → ℕ → ℕ
instructions_in text at = cond (eqb (get_or text at 0) 73) 1 0

-- ---- what is written

-- for the first line, n bytes: that of instruction i, or the line as it stands
abbrev pub line_anew : List ℤ → ℕ → List ℕ → ℕ → List ℕ
line_anew s i text n = cond (eqb (get_or text 0 0) 73) (instruction_line s i ++ (10 ∷ [])) (take n text)

-- for all lines; nothing where the text is no lines
abbrev pub lines_anew : List ℤ → List ℤ → Option (List (List ℕ)) → List ℕ
lines_anew s added none = []
lines_anew s added (some ls) = text_of (converted_lines s added 0 ls)

-- bytes at a place, where there is room for them; the answer is the place after them, or the place behind the end
pub record PutsNext (bytes out : List ℕ) (to r : ℕ) (out' : List ℕ) : Type 0 where
  pub next : r ≡ min (to + length bytes) (length out + 1)
  pub written : r ≤ length out → out' ≡ sets out to bytes

-- bytes at a place, and the place after them; or 0, and zeros
pub record PutsEnd (bytes out : List ℕ) (to r : ℕ) (out' : List ℕ) : Type 0 where
  pub answer : r ≡ cond (leb (to + length bytes) (length out)) (to + length bytes) 0
  pub written : out' ≡ cond (leb (to + length bytes) (length out)) (sets out to bytes) (replicate (length out) 0)

-- THE contract of put_converted: the bytes, with zeros after them, and how many they are; where there is no room 0, and zeros
pub record PutsAnew (bytes out : List ℕ) (r : ℕ) (out' : List ℕ) : Type 0 where
  pub answer : r ≡ cond (leb (length bytes) (length out)) (length bytes) 0
  pub list : out' ≡ list_of (room_refusal (length bytes) (length out)) 0 (length out) bytes
