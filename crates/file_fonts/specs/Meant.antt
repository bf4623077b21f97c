-- The font that the bytes of a file mean, and the contract of reading it: what reading a file gives (crate `files`), with its entries
-- unpacked, as TeX 1039 follows a redirect at an entry, and its design size (TeX 542, header word 2).
use Rattle.std.specs.Prelude.{◌≡◌, Bool, cond, List, [], ◌∷◌, ◌++◌, ℕ, zero, suc, ◌+◌, ◌-◌, ◌*◌, ◌/◌, ℤ, pos, negsuc, leb, eqb, length, take}
use Rattle.words.specs.Words.{word_of}
use Rattle.lang.specs.Every.{both, every}
use Rattle.lang.specs.Checks.{or_else, char_at, entry_at}
use Rattle.lang.specs.Answers.{Reply, reply_of, room_refusal, list_of}
use Rattle.entry_targets.specs.Targets.{stands_for, entry_refusal}
use Rattle.files.specs.Lengths.{file_byte, lengths_of, lengths_refusal}
use Rattle.files.specs.Commands.{kern_number}
use Rattle.files.specs.Reading.{file_instructions, file_kerns, file_entries, file_boundary, file_left}
use Rattle.fonts.specs.Fonts.{Font, font_of}
use Rattle.file_fonts.specs.declared.FileFont.{FileFont}
use Rattle.file_fonts.specs.declared.FileFont.TheVariants as Answer

-- ---- the bytes that are the file

-- how many bytes the first length asks for
abbrev pub asked_length : List ℕ → ℕ
asked_length bytes = 4 * (lengths_of bytes).lf

-- zeros alone stand behind them
abbrev pub zeros_behind : List ℕ → Bool
zeros_behind bytes =
    both (leb (asked_length bytes) (length bytes))
    (every (length bytes - asked_length bytes) (λ i. eqb (file_byte bytes (asked_length bytes + i)) 0))

-- zeros behind the last word are passed over; any other bytes are the file's, and make it too long
abbrev pub file_length : List ℕ → ℕ
file_length bytes = cond (zeros_behind bytes) (asked_length bytes) (length bytes)

abbrev pub file_of : List ℕ → List ℕ
file_of bytes = take (file_length bytes) bytes

-- ---- entries

-- an entry leads to an instruction: it is neither past the instructions (8) nor at a redirect that leads past them (9)
abbrev pub leads : List ℤ → ℕ → Bool
leads s e = eqb (entry_refusal s e) 0

-- the first n of a list of packed entries, unpacked; those that lead nowhere are left out
unfoldable pub unpacked_below : List ℤ → List ℤ → ℕ → List ℤ
unpacked_below s es zero = []
unpacked_below s es (suc n) =
    unpacked_below s es n
    ++ cond (leads s (word_of (entry_at es n))) (char_at es n ∷ pos (stands_for s (word_of (entry_at es n))) ∷ []) []

-- the characters among them whose entry leads nowhere
unfoldable pub lost_below : List ℤ → List ℤ → ℕ → List ℤ
lost_below s es zero = []
lost_below s es (suc n) = lost_below s es n ++ cond (leads s (word_of (entry_at es n))) [] (char_at es n ∷ [])

-- the entries of a file, unpacked
abbrev pub meant_entries : List ℕ → List ℤ
meant_entries file = unpacked_below (file_instructions file) (file_entries file) (length (file_entries file) / 2)

-- its characters whose entry leads nowhere
abbrev pub lost_chars : List ℕ → List ℤ
lost_chars file = lost_below (file_instructions file) (file_entries file) (length (file_entries file) / 2)

-- ---- the design size

-- ten points
abbrev pub ten_points : ℤ
ten_points = pos 10485760

-- a design size of one scaled point or more; ten points for any other
abbrev pub or_ten_points : ℤ → ℤ
or_ten_points (pos n) = cond (leb 16 n) (pos n) ten_points
or_ten_points (negsuc n) = ten_points

-- the second word of the header, where there is one
abbrev pub file_design : List ℕ → ℤ
file_design file = cond (leb 2 (lengths_of file).lh) (or_ten_points (kern_number file 7)) ten_points

-- ---- the font

-- THE font that the bytes of a file mean
abbrev pub meant_font : List ℕ → Font
meant_font file =
    font_of (file_instructions file) (file_kerns file) (meant_entries file) (file_boundary file) (file_left file) (file_design file)

-- ---- reading it

-- 17, then 15, for lists of so many places
abbrev pub read_font_refusal : List ℕ → ℕ → ℕ → ℕ → ℕ → ℕ
read_font_refusal file instructions kerns entries lost =
    or_else (lengths_refusal file)
    (or_else (room_refusal (length (file_instructions file)) instructions)
    (or_else (room_refusal (length (file_kerns file)) kerns)
    (or_else (room_refusal (length (meant_entries file)) entries) (room_refusal (length (lost_chars file)) lost))))

-- what a file is answered with that is not refused
abbrev pub meant_values : List ℕ → List ℤ
meant_values file =
    pos (lengths_of file).nl ∷ pos (lengths_of file).nk ∷ pos (length (meant_entries file) / 2) ∷ pos (length (lost_chars file))
    ∷ file_boundary file ∷ file_left file ∷ file_design file ∷ []

-- an answer as a number and values
abbrev pub file_font_reply : FileFont → Reply
file_font_reply (Answer.Font i k e n boundary left design) =
    reply_of 0 (pos i ∷ pos k ∷ pos e ∷ pos n ∷ boundary ∷ left ∷ design ∷ [])
file_font_reply (Answer.Refused n) = record { number = n; values = [] }

-- THE contract of read_font, over the bytes that are the file: the answer, and each list with zeros after what is read, or zeros alone
pub record ReadsFont (file : List ℕ) (instructions kerns entries lost : List ℤ) (r : FileFont)
    (instructions' kerns' entries' lost' : List ℤ) : Type 0 where
  pub answer : file_font_reply r ≡
      reply_of (read_font_refusal file (length instructions) (length kerns) (length entries) (length lost)) (meant_values file)
  pub program : instructions' ≡
      list_of (read_font_refusal file (length instructions) (length kerns) (length entries) (length lost)) (pos 0) (length instructions)
      (file_instructions file)
  pub kern_list : kerns' ≡
      list_of (read_font_refusal file (length instructions) (length kerns) (length entries) (length lost)) (pos 0) (length kerns)
      (file_kerns file)
  pub entry_list : entries' ≡
      list_of (read_font_refusal file (length instructions) (length kerns) (length entries) (length lost)) (pos 0) (length entries)
      (meant_entries file)
  pub lost_list : lost' ≡
      list_of (read_font_refusal file (length instructions) (length kerns) (length entries) (length lost)) (pos 0) (length lost)
      (lost_chars file)
