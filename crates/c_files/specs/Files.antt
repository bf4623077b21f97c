-- The calls for a host in C that read a font file and write one. Each answer is that of the port's own function (files/specs); what is added
-- is 15 where a list of fixed size is too short. That is known without the file, so it comes before 17 and 18: the lower number is told.
use Rattle.std.specs.Prelude.{◌≡◌, List, [], ◌∷◌, ℕ, ◌*◌, ◌/◌, ℤ, pos, length}
use Rattle.lang.specs.Records.{count}
use Rattle.lang.specs.Checks.{or_else, lower}
use Rattle.lang.specs.Answers.{room_refusal, list_of}
use Rattle.files.specs.declared.Deserialized.{Deserialized}
use Rattle.files.specs.declared.Deserialized.TheVariants.{Font, Refused}
use Rattle.files.specs.Lengths.{lengths_of}
use Rattle.files.specs.Reading.{file_instructions, file_kerns, file_entries, file_boundary, file_left, deserialized_reply, deserialize_refusal}
use Rattle.files.specs.Writing.{Writable, written_kerns, written_instructions, written_size, written_file, write_refusal}

-- 15: fewer than two edges, or fewer than three counts
abbrev pub fixed_refusal : ℕ → ℕ → ℕ
fixed_refusal edges counts = or_else (room_refusal 2 edges) (room_refusal 3 counts)

-- the number of reading a file
abbrev pub deserialize_number : List ℕ → ℕ → ℕ → ℕ → ℕ → ℕ → ℕ
deserialize_number file instructions kerns entries edges counts =
    lower (fixed_refusal edges counts) (deserialize_refusal file instructions kerns entries)

-- THE contract of ligkern_deserialize: the number; each list with zeros after what is read, or zeros alone. Edges are the boundary character
-- and the left entry, -1 absent; counts are those of instructions, kerns and entries.
pub record HostDeserializes (file : List ℕ) (instructions kerns entries edges : List ℤ) (counts : List ℕ) (r : ℕ)
    (instructions' kerns' entries' edges' : List ℤ) (counts' : List ℕ) : Type 0 where
  pub number : r ≡ deserialize_number file (length instructions) (length kerns) (length entries) (length edges) (length counts)
  pub program : instructions' ≡ list_of r (pos 0) (length instructions) (file_instructions file)
  pub kern_list : kerns' ≡ list_of r (pos 0) (length kerns) (file_kerns file)
  pub entry_list : entries' ≡ list_of r (pos 0) (length entries) (file_entries file)
  pub edge_list : edges' ≡ list_of r (pos 0) (length edges) (file_boundary file ∷ file_left file ∷ [])
  pub count_list : counts' ≡ list_of r 0 (length counts) ((lengths_of file).nl ∷ (lengths_of file).nk ∷ length (file_entries file) / 2 ∷ [])

-- the edges of an answer
abbrev pub edges_of : Deserialized → List ℤ
edges_of (Font i k e boundary left) = boundary ∷ left ∷ []
edges_of (Refused n) = []

-- its counts
abbrev pub file_counts : Deserialized → List ℕ
file_counts (Font i k e boundary left) = i ∷ k ∷ e ∷ []
file_counts (Refused n) = []

-- what a host is told of an answer: the number, and the edges and counts with zeros after them, or zeros alone
pub record TellsFont (font : Deserialized) (edges : List ℤ) (counts : List ℕ) (r : ℕ) (edges' : List ℤ) (counts' : List ℕ) : Type 0 where
  pub number : r ≡ lower (fixed_refusal (length edges) (length counts)) (deserialized_reply font).number
  pub edge_list : edges' ≡ list_of r (pos 0) (length edges) (edges_of font)
  pub count_list : counts' ≡ list_of r 0 (length counts) (file_counts font)

-- the number of writing one, with so many places for the values
abbrev pub replace_number : List ℕ → Writable → ℕ → ℕ → ℕ
replace_number old f room values = lower (room_refusal 1 values) (write_refusal old f room)

-- THE contract of ligkern_replace_lig_kern_program: the number; the file and zeros, and how many bytes it has, or zeros alone
pub record HostReplaces (old : List ℕ) (f : Writable) (out values : List ℕ) (r : ℕ) (out' values' : List ℕ) : Type 0 where
  pub number : r ≡ replace_number old f (length out) (length values)
  pub file : out' ≡ list_of r 0 (length out) (written_file old f)
  pub told : values' ≡
      list_of r 0 (length values) (4 * written_size old (count (written_instructions f)) (length (written_kerns f)) ∷ [])
