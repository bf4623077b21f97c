-- The lines of the rest of a text, added to what was read; and the line of a word. A line of n numbers:
-- text_line_numbers/specs/LineNumbers.
use Rattle.std.specs.Prelude.{cond, List, [], ◌∷◌, ℕ, ◌/◌, ◌%◌, ℤ, leb, eqb, length}
use Rattle.std.proofs.Math.Option.{Option, none, some}
pub use Rattle.columns.specs.Replying.{line_of}
pub use Rattle.text_line_numbers.specs.LineNumbers.{line_ends, numbers_on, numbers_in, number_on, words_of, is_some, Stores}
use Rattle.columns.specs.Lines.{Line, lines_of, read_line}
use Rattle.columns.specs.Texts.{Text, add_lines}

-- ---- the rest of a text

-- the lines of the rest added to what was read, where the rest ends in a line feed
abbrev pub add_all : Option (List (List ℕ)) → Option Text → Option Text
add_all none r = none
add_all (some ls) r = add_lines ls r

-- all lines of the rest of a text, added to what was read
abbrev pub rest_of : List ℕ → Option Text → Option Text
rest_of bytes r = add_all (lines_of bytes) r

-- the first line by f, the others added to it
abbrev pub first_by : (Option Line → Option Text) → Option (List (List ℕ)) → Option Text
first_by f none = none
first_by f (some []) = none
first_by f (some (l ∷ ls)) = add_lines ls (f (read_line l))

-- ---- the line of a word

-- as many as there are up to the end of the text, 64 at most
abbrev pub word_on : List ℕ → Option (List ℤ)
word_on bs = cond (eqb (length bs % 12) 1) (cond (leb (length bs / 12) 64) (numbers_on (length bs / 12) bs) none) none
