-- The call for a host in C that reads a property list. The answer is that of `from_pl_source_code` (property_lists/specs/ListReading); what is
-- added is 15 where edges or counts have no place. That is known without the text, so it comes before 23: the lower number is told.
use Rattle.std.specs.Prelude.{◌≡◌, List, [], ◌∷◌, ℕ, ◌/◌, ℤ, pos, length, get_or}
use Rattle.std.proofs.Math.Option.{Option, none, some}
use Rattle.words.specs.Words.{number_of}
use Rattle.lang.specs.Checks.{or_else, lower}
use Rattle.lang.specs.Answers.{room_refusal, list_of}
use Rattle.program_kerns.specs.Kerns.{kerns_of}
use Rattle.property_lists.specs.declared.Listed.{Listed}
use Rattle.property_lists.specs.declared.Listed.TheVariants.{Font, Refused}
use Rattle.property_lists.specs.ListReading.{ListRead, pl_read, pl_shared, pl_kerns, pl_entries, label_entries, pl_refusal, listed_reply}

-- 15: fewer than two edges, or fewer than three counts
abbrev pub list_fixed_refusal : ℕ → ℕ → ℕ
list_fixed_refusal edges counts = or_else (room_refusal 2 edges) (room_refusal 3 counts)

-- the number of reading a text
abbrev pub list_read_number : List ℕ → ℕ → ℕ → ℕ → ℕ → ℕ → ℕ
list_read_number text instructions kerns entries edges counts =
    lower (list_fixed_refusal edges counts) (pl_refusal (pl_read text) instructions kerns entries)

-- the boundary character and the left entry of what was read, -1 absent
abbrev pub pl_edges : Option ListRead → List ℤ
pl_edges none = []
pl_edges (some r) = number_of r.now.boundary ∷ get_or r.labels 256 (pos 0) ∷ []

-- how many instructions, kerns and entries it has
abbrev pub pl_counts : Option ListRead → List ℕ
pl_counts none = []
pl_counts (some r) = r.now.steps ∷ length (kerns_of r.program) ∷ length (label_entries r.labels 256) / 2 ∷ []

-- THE contract of ligkern_from_pl_source_code: the number; each list with zeros after what is read, or zeros alone
pub record HostReadsList (text : List ℕ) (instructions kerns entries edges : List ℤ) (counts : List ℕ) (r : ℕ)
    (instructions' kerns' entries' edges' : List ℤ) (counts' : List ℕ) : Type 0 where
  pub number : r ≡ list_read_number text (length instructions) (length kerns) (length entries) (length edges) (length counts)
  pub program : instructions' ≡ list_of r (pos 0) (length instructions) (pl_shared (pl_read text))
  pub kern_list : kerns' ≡ list_of r (pos 0) (length kerns) (pl_kerns (pl_read text))
  pub entry_list : entries' ≡ list_of r (pos 0) (length entries) (pl_entries (pl_read text))
  pub edge_list : edges' ≡ list_of r (pos 0) (length edges) (pl_edges (pl_read text))
  pub count_list : counts' ≡ list_of r 0 (length counts) (pl_counts (pl_read text))

-- the edges of an answer
abbrev pub listed_edges : Listed → List ℤ
listed_edges (Font i k e boundary left) = boundary ∷ left ∷ []
listed_edges (Refused n) = []

-- its counts
abbrev pub listed_counts : Listed → List ℕ
listed_counts (Font i k e boundary left) = i ∷ k ∷ e ∷ []
listed_counts (Refused n) = []

-- what a host is told of an answer: the number, and the edges and counts with zeros after them, or zeros alone
pub record TellsList (font : Listed) (edges : List ℤ) (counts : List ℕ) (r : ℕ) (edges' : List ℤ) (counts' : List ℕ) : Type 0 where
  pub number : r ≡ lower (list_fixed_refusal (length edges) (length counts)) (listed_reply font).number
  pub edge_list : edges' ≡ list_of r (pos 0) (length edges) (listed_edges font)
  pub count_list : counts' ≡ list_of r 0 (length counts) (listed_counts font)
