-- What the font that a file means is for: theorems `meant-lead` and `meant-taken` of proofs/Theorems. No contract cites this.
use Rattle.std.specs.Prelude.{◌≡◌, List, ℕ, ◌/◌, ◌<◌, length}
use Rattle.words.specs.Words.{word_of}
use Rattle.lang.specs.Records.{count}
use Rattle.lang.specs.Checks.{char_at, entry_at}
use Rattle.files.specs.Lengths.{file_byte, lengths_refusal}
use Rattle.files.specs.Reading.{file_instructions}
use Rattle.fonts.specs.Compiled.{font_refusal}
use Rattle.file_fonts.specs.Meant.{meant_entries, meant_font}

-- every number of a list is a byte, as in every list of bytes that is lent
abbrev pub AreBytes : List ℕ → Type 0
AreBytes bytes = (i : ℕ) → file_byte bytes i < 256

-- the entries of a file, unpacked: each leads to an instruction, and they stand by ascending character
pub record Leads (file : List ℕ) : Type 0 where
  pub below : (i : ℕ) → i < length (meant_entries file) / 2 → word_of (entry_at (meant_entries file) i) < count (file_instructions file)
  pub ascending : (i j : ℕ) → i < j → j < length (meant_entries file) / 2 →
      word_of (char_at (meant_entries file) i) < word_of (char_at (meant_entries file) j)

-- So it is with the bytes of every file.
abbrev pub MeantLead : Type 0
MeantLead = (file : List ℕ) → AreBytes file → Leads file

-- A file that is not refused means a font that compiling refuses with none of 1 to 5.
abbrev pub MeantTaken : Type 0
MeantTaken = (file : List ℕ) → AreBytes file → lengths_refusal file ≡ 0 → font_refusal (meant_font file) ≡ 0
