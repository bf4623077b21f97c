-- What is written is read back, and what is read is written: proofs/Theorems and proofs/Again prove it.
use Rattle.std.specs.Prelude.{◌≡◌, List, [], ◌∷◌, ℕ, ◌/◌, ℤ, pos, length, get_or}
use Rattle.std.proofs.Math.Option.{some}
use Rattle.std.specs.Int.{w32}
use Rattle.std.proofs.Common.{SFits}
use Rattle.words.specs.Words.{number_of}
use Rattle.lang.specs.Records.{count}
use Rattle.lang.specs.Entries.{entries_table}
use Rattle.files.specs.Purpose.{AreI32}
use Rattle.program_kerns.specs.Kerns.{packed, unpacked, kerns_of}
use Rattle.property_lists.specs.Displays.{display_text, display_fault}
use Rattle.property_lists.specs.ListReading.{ListRead, pl_read, label_entries, pl_shared, pl_kerns, pl_entries, pl_values, pl_refusal}

-- a text is read as these instructions with each kern index replaced by its value, these entries and left entry (the table of R277, from
-- which reading gives the entries ascending) and this boundary character
pub record ListReadBack (text : List ℕ) (s kerns es : List ℤ) (boundary left : ℤ) : Type 0 where
  pub font : ListRead
  pub read : pl_read text ≡ some font
  pub steps : font.now.steps ≡ count s
  pub program : font.program ≡ packed s kerns
  pub labels : font.labels ≡ entries_table es left
  pub boundary_char : number_of font.now.boundary ≡ boundary

-- so from_pl_source_code answers these instructions with their kerns shared (R468), those kerns, the entries ascending, how many there are of each, this
-- boundary character and this left entry
pub record SharedReadBack (text : List ℕ) (s kerns es : List ℤ) (boundary left : ℤ) : Type 0 where
  pub program : pl_shared (pl_read text) ≡ unpacked (packed s kerns)
  pub shares : pl_kerns (pl_read text) ≡ kerns_of (packed s kerns)
  pub entries : pl_entries (pl_read text) ≡ label_entries (entries_table es left) 256
  pub values : pl_values (pl_read text) ≡
      pos (count s) ∷ pos (length (kerns_of (packed s kerns))) ∷ pos (length (label_entries (entries_table es left) 256) / 2) ∷ boundary ∷ left ∷ []

-- of every font that writing takes
abbrev pub FontReadBack : Type 0
FontReadBack =
    (s kerns es : List ℤ) (boundary left : ℤ) → AreI32 s → AreI32 kerns → AreI32 es → SFits w32 boundary → SFits w32 left →
    display_fault s kerns es boundary left ≡ 0 →
    ListReadBack (display_text s kerns es boundary left) s kerns es boundary left
    × SharedReadBack (display_text s kerns es boundary left) s kerns es boundary left

-- ---- what is read is written

-- a list that was read as a font to write: its program and its kerns shared, its entries, boundary character and left entry
abbrev pub list_fault : ListRead → ℕ
list_fault r =
    display_fault (unpacked r.program) (kerns_of r.program) (label_entries r.labels 256) (number_of r.now.boundary) (get_or r.labels 256 (pos 0))

abbrev pub list_text : ListRead → List ℕ
list_text r =
    display_text (unpacked r.program) (kerns_of r.program) (label_entries r.labels 256) (number_of r.now.boundary) (get_or r.labels 256 (pos 0))

-- writing takes it, and its text gives the same in all that from_pl_source_code answers: the number, the instructions, the kerns, the entries, how many
-- there are of each, the boundary character and the left entry
pub record ListWritten (r : ListRead) : Type 0 where
  pub taken : list_fault r ≡ 0
  pub refusal : (room kernRoom entryRoom : ℕ) → pl_refusal (pl_read (list_text r)) room kernRoom entryRoom ≡ pl_refusal (some r) room kernRoom entryRoom
  pub program : pl_shared (pl_read (list_text r)) ≡ pl_shared (some r)
  pub shares : pl_kerns (pl_read (list_text r)) ≡ pl_kerns (some r)
  pub entries : pl_entries (pl_read (list_text r)) ≡ pl_entries (some r)
  pub values : pl_values (pl_read (list_text r)) ≡ pl_values (some r)

-- of every text that reading takes
abbrev pub ReadIsWritten : Type 0
ReadIsWritten =
    (text : List ℕ) (r : ListRead) (room kernRoom entryRoom : ℕ) → pl_read text ≡ some r → pl_refusal (pl_read text) room kernRoom entryRoom ≡ 0 → ListWritten r
