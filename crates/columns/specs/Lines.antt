-- A text as lines, and a line as a letter and numbers (R185, R195). Every line ends with a line feed (10), and nothing stands after the
-- last one.
use Rattle.std.specs.Prelude.{cond, List, [], ◌∷◌, ◌++◌, ℕ, zero, suc, ◌/◌, ◌%◌, ℤ, eqb, length, take, drop}
use Rattle.std.proofs.Math.Option.{Option, none, some}
use Rattle.columns.specs.Numbers.{read_field, field_of}

-- ---- lines

-- a byte before the first line; none where there is no line, since the text does not end with a line feed
abbrev pub on_first : ℕ → Option (List (List ℕ)) → Option (List (List ℕ))
on_first b none = none
on_first b (some []) = none
on_first b (some (l ∷ ls)) = some ((b ∷ l) ∷ ls)

-- a line feed before the lines: an empty line is the first
abbrev pub after_feed : Option (List (List ℕ)) → Option (List (List ℕ))
after_feed none = none
after_feed (some ls) = some ([] ∷ ls)

-- the lines of a text, without their line feeds
unfoldable pub lines_of : List ℕ → Option (List (List ℕ))
lines_of [] = some []
lines_of (b ∷ bs) = cond (eqb b 10) (after_feed (lines_of bs)) (on_first b (lines_of bs))

-- ---- a line

-- a line: its letter as a byte, and the numbers of its fields
pub record Line : Type 0 where
  pub letter : ℕ
  pub numbers : List ℤ

-- a number before others; none where one of them is unreadable
abbrev pub and_number : Option ℤ → Option (List ℤ) → Option (List ℤ)
and_number none r = none
and_number (some z) none = none
and_number (some z) (some zs) = some (z ∷ zs)

-- n fields of 12 columns
unfoldable pub read_fields : ℕ → List ℕ → Option (List ℤ)
read_fields zero bs = some []
read_fields (suc n) bs = and_number (read_field (take 12 bs)) (read_fields n (drop 12 bs))

-- a letter and the numbers of its line, where these were read
abbrev pub lettered : ℕ → Option (List ℤ) → Option Line
lettered letter none = none
lettered letter (some zs) = some (record { letter = letter; numbers = zs })

-- a letter, and fields of exactly 12 columns
abbrev pub read_line : List ℕ → Option Line
read_line [] = none
read_line (b ∷ bs) = cond (eqb (length bs % 12) 0) (lettered b (read_fields (length bs / 12) bs)) none

-- ---- written again

-- numbers as fields of 12 columns, one after the other
unfoldable pub fields_of : List ℤ → List ℕ
fields_of [] = []
fields_of (z ∷ zs) = field_of z ++ fields_of zs

-- a line as bytes, without its line feed
abbrev pub write_line : Line → List ℕ
write_line l = l.letter ∷ fields_of l.numbers

-- the text of lines: each with its line feed
unfoldable pub text_of : List (List ℕ) → List ℕ
text_of [] = []
text_of (l ∷ ls) = l ++ (10 ∷ text_of ls)
