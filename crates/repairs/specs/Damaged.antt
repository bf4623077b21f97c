-- A font as it is lent to be repaired (R164); TFtoPL 66 to 70. Its entries are packed ones.
use Rattle.std.specs.Prelude.{Bool, true, false, cond, List, [], ◌∷◌, ◌++◌, ℕ, zero, suc, ◌/◌, ℤ, pos, negsuc, leb, eqb, length, get_or}
use Rattle.std.specs.Int.Signed.{non_neg}
use Rattle.words.specs.Words.{word_of}
use Rattle.words.specs.Lists.{tabulate}
use Rattle.lang.specs.Every.{both}
use Rattle.lang.specs.Records.{count, is_kind}
use Rattle.lang.specs.Checks.{char_at, entry_at}
use Rattle.entry_targets.specs.Targets.{stands_for, entry_refusal}
use Rattle.reach_marks.specs.Marks.{reachable}

-- The replacement is what a character that does not exist becomes (the Rust's smallest_char); it need not exist (R166). The existing
-- characters are a set of 256 bits (R38), in four words of 64. Passthrough is one byte an instruction (R39).
pub record Damaged : Type 0 where
  pub instructions : List ℤ
  pub kerns : List ℤ
  pub entries : List ℤ
  pub boundary : ℤ
  pub left : ℤ
  pub replacement : ℕ
  pub existing : List ℕ
  pub passthrough : List ℕ

-- ---- R170, TFtoPL 67: entries that unpack

-- the packed entry at place k of the entries
abbrev pub packed_entry_of : Damaged → ℕ → ℕ
packed_entry_of d k = word_of (entry_at d.entries k)

-- entry k unpacks: neither 8 nor 9
abbrev pub unpacks : Damaged → ℕ → Bool
unpacks d k = eqb (entry_refusal d.instructions (packed_entry_of d k)) 0

-- the first k entries unpacked, without those that do not
unfoldable pub unpacked_upto : Damaged → ℕ → List ℤ
unpacked_upto d zero = []
unpacked_upto d (suc k) =
    unpacked_upto d k
    ++ cond (unpacks d k) (char_at d.entries k ∷ pos (stands_for d.instructions (packed_entry_of d k)) ∷ []) []

-- all entries that unpack, two numbers each
abbrev pub unpacked_entries : Damaged → List ℤ
unpacked_entries d = unpacked_upto d (length d.entries / 2)

-- one of the first k entries unpacks by a redirect at i
unfoldable pub redirects_at : Damaged → ℕ → ℕ → Bool
redirects_at d i zero = false
redirects_at d i (suc k) =
    cond (both (unpacks d k) (both (is_kind 3 d.instructions (packed_entry_of d k)) (eqb (packed_entry_of d k) i)))
    true (redirects_at d i k)

-- instruction i is passed over: it came so, or an entry unpacks by it (R182)
abbrev pub passed_over : Damaged → ℕ → Bool
passed_over d i = cond (eqb (get_or d.passthrough i 0) 0) (redirects_at d i (length d.entries / 2)) true

-- ---- R169, TFtoPL 69: the left boundary's entry

-- it is past the end
abbrev pub left_goes : Damaged → Bool
left_goes d = both (non_neg d.left) (leb (count d.instructions) (word_of d.left))

-- the left entry; none (-1) where it is past the end
abbrev pub repaired_left : Damaged → ℤ
repaired_left d = cond (left_goes d) (negsuc 0) d.left

-- ---- TFtoPL 68 to 70: the program whose steps are looked at one by one

-- `marks` is what is reachable, `passthrough` what is passed over: a byte an instruction, nonzero meaning that it is.
pub record DamagedProgram : Type 0 where
  pub instructions : List ℤ
  pub kerns : List ℤ
  pub boundary : ℤ
  pub replacement : ℕ
  pub existing : List ℕ
  pub marks : List ℕ
  pub passthrough : List ℕ

-- a byte an instruction: 1 where it is passed over, else 0
abbrev pub repaired_passthrough : Damaged → List ℕ
repaired_passthrough d = tabulate (count d.instructions) (λ i. cond (passed_over d i) 1 0)

-- the program of these parts
abbrev pub program_by : List ℤ → List ℤ → ℤ → ℕ → List ℕ → List ℕ → List ℕ → DamagedProgram
program_by instructions kerns boundary replacement existing marks passthrough =
    record {
      instructions = instructions;
      kerns = kerns;
      boundary = boundary;
      replacement = replacement;
      existing = existing;
      marks = marks;
      passthrough = passthrough;
    }

-- reachable is what crate `reach_marks` says of the font as lent, with the entries that unpack (R182)
abbrev pub program_of : Damaged → DamagedProgram
program_of d =
    program_by d.instructions d.kerns d.boundary d.replacement d.existing
    (reachable d.instructions (unpacked_entries d) (repaired_left d)) (repaired_passthrough d)
