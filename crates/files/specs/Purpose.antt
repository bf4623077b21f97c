-- What reading and writing a font file are for: theorems `read-after-write`, `rest-kept` and `entries-lead` of proofs/Theorems. No contract
-- cites this.
use Rattle.std.specs.Prelude.{◌≡◌, cond, List, [], ◌∷◌, ◌++◌, ℕ, zero, suc, ◌+◌, ◌*◌, ◌/◌, ◌%◌, ◌<◌, ◌≤◌, ℤ, pos, negsuc, length, get_or, drop}
use Rattle.std.specs.Int.Signed.{non_neg}
use Rattle.std.proofs.Common.{SFits}
use Rattle.std.specs.Int.{w32}
use Rattle.words.specs.Words.{word_of}
use Rattle.words.specs.Lists.{tabulate}
use Rattle.lang.specs.Records.{count, field, is_kind, instruction_at}
use Rattle.lang.specs.Checks.{char_at, entry_at}
use Rattle.lang.specs.Answers.{reply_of}
use Rattle.program_kerns.specs.Kerns.{changed}
use Rattle.entry_unpack.specs.Unpacking.{unpack_entry}
use Rattle.pack.specs.Packing.{font_offset, packed_entries}
use Rattle.pack.specs.Purpose.{old_entry}
use Rattle.files.specs.Lengths.{file_half, lengths_of, char_count, char_start, command_start, recipe_start, lengths_refusal}
use Rattle.files.specs.Reading.{file_instructions, file_kerns, file_entries, file_boundary, file_left}
use Rattle.files.specs.Sections.{file_bytes}
use Rattle.files.specs.Writing.{Writable, written_kerns, shared_font, written_instructions, written_table, written_file, write_refusal}

-- every number of a list is an i32, as in every list that is lent
abbrev pub AreI32 : List ℤ → Type 0
AreI32 zs = (i : ℕ) → SFits w32 (get_or zs i (pos 0))

-- ---- read after write

-- a program with the flags of its redirects off
abbrev pub unflagged : List ℤ → List ℤ
unflagged s = tabulate (length s) (changed s (is_kind 3 s) (pos 3) (λ i. pos (word_of (field s i 3) % 65536)))

-- the entries of the first n places of a table, by ascending character
unfoldable pub ascending : List ℤ → ℕ → List ℤ
ascending table zero = []
ascending table (suc n) =
    ascending table n ++ cond (non_neg (get_or table n (negsuc 0))) (pos n ∷ get_or table n (negsuc 0) ∷ []) []

-- a left entry moved by the offset; absent it stays so
abbrev pub moved_left : ℤ → ℕ → ℤ
moved_left (pos e) offset = pos (e + offset)
moved_left (negsuc n) offset = negsuc 0

-- the written file, read again, is not refused and holds the packed program with its flags off, the shared kerns, the packed entries by
-- ascending character, the boundary character, and the left entry as the added last instruction holds it
pub record ReadsAgain (old : List ℕ) (f : Writable) : Type 0 where
  pub taken : lengths_refusal (written_file old f) ≡ 0
  pub program : file_instructions (written_file old f) ≡ unflagged (written_instructions f)
  pub kerns : file_kerns (written_file old f) ≡ written_kerns f
  pub entries : file_entries (written_file old f) ≡ ascending (written_table f) 256
  pub boundary : file_boundary (written_file old f) ≡ f.boundary
  pub left : file_left (written_file old f) ≡ moved_left f.left (font_offset (shared_font f))

-- So it is with every file that is written.
abbrev pub ReadAfterWrite : Type 0
ReadAfterWrite =
    (old : List ℕ) (f : Writable) (room : ℕ) → AreI32 f.instructions → AreI32 f.kerns → write_refusal old f room ≡ 0 →
    ReadsAgain old f

-- ---- all else is the old file's

-- the nine lengths beside lf, nl and nk; the header; the dimensions; the recipes and the parameters
pub record RestKept (old : List ℕ) (f : Writable) : Type 0 where
  pub before_program : (i : ℕ) → 1 ≤ i → i < 8 → file_half (written_file old f) i ≡ file_half old i
  pub after_program : (i : ℕ) → 10 ≤ i → i < 12 → file_half (written_file old f) i ≡ file_half old i
  pub header :
      file_bytes (written_file old f) 24 (4 * char_start (lengths_of old)) ≡ file_bytes old 24 (4 * char_start (lengths_of old))
  pub dimensions :
      file_bytes (written_file old f) (4 * (char_start (lengths_of old) + char_count (lengths_of old))) (4 * command_start (lengths_of old))
      ≡ file_bytes old (4 * (char_start (lengths_of old) + char_count (lengths_of old))) (4 * command_start (lengths_of old))
  pub recipes :
      drop (4 * recipe_start (lengths_of (written_file old f))) (written_file old f) ≡ drop (4 * recipe_start (lengths_of old)) old

-- So it is with every file that is written.
abbrev pub AllElseKept : Type 0
AllElseKept = (old : List ℕ) (f : Writable) (room : ℕ) → write_refusal old f room ≡ 0 → RestKept old f

-- ---- each entry leads to its instruction

-- entry i is read again, at place k, and unpacked, with any passthrough p and room for it, leads to where it led, moved by the offset;
-- and there stands its instruction, its kern by the index of the shared kerns
pub record EntryLeads (old : List ℕ) (f : Writable) (i : ℕ) : Type 0 where
  pub k : ℕ
  pub listed : k < length (file_entries (written_file old f)) / 2
  pub char : char_at (file_entries (written_file old f)) k ≡ char_at f.entries i
  pub entry : (p : List ℕ) (room : ℕ) → length p ≡ count (file_instructions (written_file old f)) → length p ≤ room →
      unpack_entry (file_instructions (written_file old f)) (entry_at (file_entries (written_file old f)) k) p room
      ≡ reply_of 0 (pos (old_entry (shared_font f) i + font_offset (shared_font f)) ∷ [])
  pub same :
      instruction_at (file_instructions (written_file old f)) (old_entry (shared_font f) i + font_offset (shared_font f))
      ≡ instruction_at (shared_font f).instructions (old_entry (shared_font f) i)

-- So it is with every entry of every file that is written.
abbrev pub EntriesLead : Type 0
EntriesLead =
    (old : List ℕ) (f : Writable) (room : ℕ) → AreI32 f.instructions → AreI32 f.kerns → write_refusal old f room ≡ 0 →
    (i : ℕ) → i < length f.entries / 2 → EntryLeads old f i
