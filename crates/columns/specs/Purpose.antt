-- What is proved of the column text (proofs/Theorems). No contract cites this.
use Rattle.std.specs.Prelude.{◌≡◌, Bool, true, ℕ, ℤ, pos, negsuc, leb, length}
use mathlib.Core.List.{List, [], ◌∷◌, Memᴰ}
use Rattle.std.proofs.Math.Option.{some}
use Rattle.lang.specs.Every.{both}
use Rattle.columns.specs.Numbers.{read_field, field_of}
use Rattle.columns.specs.Lines.{Line, lines_of, read_line, write_line, text_of}
use Rattle.columns.specs.Texts.{read_text}
use Rattle.columns.specs.Ligcols.{number_of_text}

-- A field that is read, written again, is that field byte for byte; so no number has two spellings.
abbrev pub FieldWritten : Type 0
FieldWritten = (bs : List ℕ) (z : ℤ) → length bs ≡ 12 → read_field bs ≡ some z → field_of z ≡ bs

-- an i32
abbrev pub is_i32 : ℤ → Bool
is_i32 (pos n) = leb n 2147483647
is_i32 (negsuc n) = leb n 2147483647

-- every number of a list is an i32
unfoldable pub all_i32 : List ℤ → Bool
all_i32 [] = true
all_i32 (z ∷ zs) = both (is_i32 z) (all_i32 zs)

-- And an i32 that is written is read: every number has a spelling.
abbrev pub FieldReadsBack : Type 0
FieldReadsBack = (z : ℤ) → is_i32 z ≡ true → (length (field_of z) ≡ 12) × (read_field (field_of z) ≡ some z)

-- The same of a line.
abbrev pub LineWritten : Type 0
LineWritten = (bs : List ℕ) (l : Line) → read_line bs ≡ some l → write_line l ≡ bs

-- And a line whose numbers are i32, written, is read as that line.
abbrev pub LineRead : Type 0
LineRead = (l : Line) → all_i32 l.numbers ≡ true → read_line (write_line l) ≡ some l

-- The lines of a text, written one after the other, are that text; so a text has one reading as lines.
abbrev pub LinesWritten : Type 0
LinesWritten = (bs : List ℕ) (ls : List (List ℕ)) → lines_of bs ≡ some ls → text_of ls ≡ bs

-- the numbers that refuse a text
abbrev pub refusals_of_texts : List ℕ
refusals_of_texts = 2 ∷ 4 ∷ 5 ∷ 12 ∷ 13 ∷ 14 ∷ 15 ∷ 16 ∷ 20 ∷ []

-- Whatever text is lent, with whatever room, it is answered, which is 0, or refused by one of these. Not by 1 or 3: its I lines are in
-- fours (R190), and they and its K lines are few (R198). Not by 6 or 7: its word is short (R199), and its table is compile's own. 8 to 11
-- and 17 to 19 are of other calls (R248, R249).
abbrev pub TextNumbers : Type 0
TextNumbers = (text : List ℕ) (room : ℕ) → Memᴰ (number_of_text (read_text text) room) (0 ∷ refusals_of_texts)
