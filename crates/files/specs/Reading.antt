-- The font that a file holds, and the contract of reading it. Nothing is tested but what 17 says: an index, an entry or a target past its
-- list is read as it is.
use Rattle.std.specs.Prelude.{◌≡◌, cond, List, [], ◌∷◌, ◌++◌, ℕ, zero, suc, ◌+◌, ◌-◌, ◌*◌, ◌/◌, ℤ, pos, negsuc, ltb, length}
use Rattle.words.specs.Lists.{tabulate}
use Rattle.lang.specs.Every.{both}
use Rattle.lang.specs.Checks.{or_else}
use Rattle.lang.specs.Answers.{Reply, reply_of, room_refusal, list_of}
use Rattle.files.specs.declared.Deserialized.{Deserialized}
use Rattle.files.specs.declared.Deserialized.TheVariants.{Font, Refused}
use Rattle.files.specs.Lengths.{lengths_of, char_count, char_start, command_start, kern_start, lengths_refusal}
use Rattle.files.specs.Commands.{word_byte, command_numbers, is_first255, kern_number, char_entry}

-- ---- the lists of the font

-- the instructions of n words from word w on, four numbers each
unfoldable pub commands_from : List ℕ → ℕ → ℕ → List ℤ
commands_from file w zero = []
commands_from file w (suc n) = commands_from file w n ++ command_numbers file (w + n)

-- the entries of the first n characters from c on, whose words begin at w
unfoldable pub entries_from : List ℕ → ℕ → ℕ → ℕ → List ℤ
entries_from file c w zero = []
entries_from file c w (suc n) = entries_from file c w n ++ char_entry file (c + n) (w + n)

-- the instructions of a file
abbrev pub file_instructions : List ℕ → List ℤ
file_instructions file = commands_from file (command_start (lengths_of file)) (lengths_of file).nl

-- its kerns
abbrev pub file_kerns : List ℕ → List ℤ
file_kerns file = tabulate (lengths_of file).nk (λ i. kern_number file (kern_start (lengths_of file) + i))

-- its entries, two numbers each, by ascending character
abbrev pub file_entries : List ℕ → List ℤ
file_entries file = entries_from file (lengths_of file).bc (char_start (lengths_of file)) (char_count (lengths_of file))

-- its boundary character: that of the first word of the lig/kern section, where this names one
abbrev pub file_boundary : List ℕ → ℤ
file_boundary file =
    cond (both (ltb 0 (lengths_of file).nl) (is_first255 file (command_start (lengths_of file))))
    (pos (word_byte file (command_start (lengths_of file)) 1))
    (negsuc 0)

-- its left entry: that of the last word, where this names one. One word can be both
abbrev pub file_left : List ℕ → ℤ
file_left file =
    cond (both (ltb 0 (lengths_of file).nl) (is_first255 file (kern_start (lengths_of file) - 1)))
    (pos (256 * word_byte file (kern_start (lengths_of file) - 1) 2 + word_byte file (kern_start (lengths_of file) - 1) 3))
    (negsuc 0)

-- ---- the answer

-- an answer as a number and values: how many instructions, kerns and entries, the boundary character, the left entry
abbrev pub deserialized_reply : Deserialized → Reply
deserialized_reply (Font i k e boundary left) = reply_of 0 (pos i ∷ pos k ∷ pos e ∷ boundary ∷ left ∷ [])
deserialized_reply (Refused n) = record { number = n; values = [] }

-- 17, then 15, for lists of so many places
abbrev pub deserialize_refusal : List ℕ → ℕ → ℕ → ℕ → ℕ
deserialize_refusal file instructions kerns entries =
    or_else (lengths_refusal file)
    (or_else (room_refusal (length (file_instructions file)) instructions)
    (or_else (room_refusal (length (file_kerns file)) kerns) (room_refusal (length (file_entries file)) entries)))

-- what a file is answered with that is not refused
abbrev pub font_values : List ℕ → List ℤ
font_values file =
    pos (lengths_of file).nl ∷ pos (lengths_of file).nk ∷ pos (length (file_entries file) / 2) ∷ file_boundary file ∷ file_left file ∷ []

-- THE contract of deserialize: the answer, and each list with zeros after what is read, or zeros alone
pub record Deserializes (file : List ℕ) (instructions kerns entries : List ℤ) (r : Deserialized)
    (instructions' kerns' entries' : List ℤ) : Type 0 where
  pub answer : deserialized_reply r ≡
      reply_of (deserialize_refusal file (length instructions) (length kerns) (length entries)) (font_values file)
  pub program : instructions' ≡
      list_of (deserialize_refusal file (length instructions) (length kerns) (length entries)) (pos 0) (length instructions)
      (file_instructions file)
  pub kern_list : kerns' ≡
      list_of (deserialize_refusal file (length instructions) (length kerns) (length entries)) (pos 0) (length kerns) (file_kerns file)
  pub entry_list : entries' ≡
      list_of (deserialize_refusal file (length instructions) (length kerns) (length entries)) (pos 0) (length entries) (file_entries file)
