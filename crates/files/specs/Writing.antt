-- A font file with another lig/kern program in its middle, and the contract of writing it.
use Rattle.std.specs.Prelude.{◌≡◌, Bool, true, cond, not, List, [], ◌∷◌, ◌++◌, ℕ, ◌+◌, ◌-◌, ◌*◌, ◌/◌, ℤ, pos, negsuc, leb, ltb, eqb, length, get_or, drop}
use Rattle.std.specs.Int.Signed.{non_neg}
use Rattle.words.specs.Words.{word_of}
use Rattle.lang.specs.declared.Written.{Written}
use Rattle.lang.specs.Every.{both, every}
use Rattle.lang.specs.Records.{count, field, is_kind, absent_or}
use Rattle.lang.specs.Checks.{unless, or_else, char_at, entry_at, program_refusal, kerns_refusal, entries_refusal, absent_refusal}
use Rattle.lang.specs.Answers.{Reply, reply_of, room_refusal, list_of, written_reply}
use Rattle.lang.specs.Entries.{entries_table}
use Rattle.program_kerns.specs.Kerns.{packed, unpacked, kerns_of}
use Rattle.pack_labels.specs.Labels.{labels_of, largest}
use Rattle.pack.specs.Packing.{Packable, packable, font_redirects, font_offset, packed_instructions, packed_entries}
use Rattle.pack.specs.Packing.{redirect_refusal, shift_refusal, left_or}
use Rattle.files.specs.declared.FileLengths.{FileLengths}
use Rattle.files.specs.declared.PackedFont.{PackedFont}
use Rattle.files.specs.declared.PackedFont.TheVariants.{Sizes, Refused}
use Rattle.files.specs.Lengths.{lengths_of, char_count, char_start, command_start, recipe_start, lengths_refusal}
use Rattle.files.specs.Commands.{word_byte}
use Rattle.files.specs.Sections.{file_bytes, section_bytes, half_bytes, kern_byte, command_byte, char_byte}

-- ---- the font as it is written

-- a font to be written; a boundary character and a left entry of -1 are absent
pub record Writable : Type 0 where
  pub instructions : List ℤ
  pub kerns : List ℤ
  pub entries : List ℤ
  pub boundary : ℤ
  pub left : ℤ

-- the same from the lists and numbers that are lent
abbrev pub writable : List ℤ → List ℤ → List ℤ → ℤ → ℤ → Writable
writable s kerns es b l = record { instructions = s; kerns = kerns; entries = es; boundary = b; left = l }

-- its kerns, each value once: indices are unpacked first, so that all values are shared
abbrev pub written_kerns : Writable → List ℤ
written_kerns f = kerns_of (packed f.instructions f.kerns)

-- the font whose entries are packed: its instructions have the indices of these kerns
abbrev pub shared_font : Writable → Packable
shared_font f = packable (unpacked (packed f.instructions f.kerns)) f.entries f.boundary f.left

-- its instructions, packed
abbrev pub written_instructions : Writable → List ℤ
written_instructions f = packed_instructions (shared_font f)

-- its entries, packed, as the table of 257 places: at a character's code its entry, -1 where there is none
abbrev pub written_table : Writable → List ℤ
written_table f = entries_table (packed_entries (shared_font f)) (negsuc 0)

-- ---- the file

-- the lengths with n words of the lig/kern section and k kerns
abbrev pub written_lengths : FileLengths → ℕ → ℕ → FileLengths
written_lengths l n k =
    record {
      lf = command_start l + n + k + l.ne + l.np;
      lh = l.lh;
      bc = l.bc;
      ec = l.ec;
      nw = l.nw;
      nh = l.nh;
      nd = l.nd;
      ni = l.ni;
      nl = n;
      nk = k;
      ne = l.ne;
      np = l.np;
    }

-- how many words the file then has
abbrev pub written_size : List ℕ → ℕ → ℕ → ℕ
written_size old n k = (written_lengths (lengths_of old) n k).lf

-- the old file, whose lengths are l, up to the characters, with three lengths of its own
abbrev pub written_front : List ℕ → FileLengths → ℕ → ℕ → List ℕ
written_front old l n k =
    half_bytes (written_lengths l n k).lf ++ file_bytes old 2 16 ++ half_bytes n ++ half_bytes k ++ file_bytes old 20 (4 * char_start l)

-- byte j of the word of character i after the first, by the table of the packed entries
abbrev pub written_char : List ℕ → FileLengths → List ℤ → ℕ → ℕ → ℕ
written_char old l table i = char_byte old (get_or table (l.bc + i) (negsuc 0)) (char_start l + i)

-- the old dimensions
abbrev pub old_dimensions : List ℕ → FileLengths → List ℕ
old_dimensions old l = file_bytes old (4 * (char_start l + char_count l)) (4 * command_start l)

-- THE file: the front, the characters, the old dimensions, the new words, the new kerns, the old recipes and parameters
abbrev pub joined_file : List ℕ → FileLengths → List ℤ → List ℤ → List ℤ → ℤ → List ℕ
joined_file old l s kerns table boundary =
    written_front old l (count s) (length kerns)
    ++ section_bytes (char_count l) (written_char old l table)
    ++ old_dimensions old l
    ++ section_bytes (count s) (command_byte s boundary)
    ++ section_bytes (length kerns) (kern_byte kerns)
    ++ drop (4 * recipe_start l) old

-- the file of a font
abbrev pub written_file : List ℕ → Writable → List ℕ
written_file old f = joined_file old (lengths_of old) (written_instructions f) (written_kerns f) (written_table f) f.boundary

-- ---- refusals

-- 1, 2, 3, 4, 10 or 11: what sharing kerns and packing entries refuse
abbrev pub pack_font_refusal : Writable → ℕ
pack_font_refusal f =
    or_else (program_refusal f.instructions)
    (or_else (kerns_refusal f.kerns)
    (or_else (entries_refusal 65535 f.entries)
    (or_else (absent_refusal 255 f.boundary)
    (or_else (absent_refusal 65535 f.left)
    (or_else (redirect_refusal (font_redirects (shared_font f)))
    (shift_refusal (largest (labels_of f.entries)) (left_or f.left) (font_offset (shared_font f))))))))

-- instruction i can be written: it is no redirect, its next is at most 127, and its kern index is in the list
abbrev pub is_writable : List ℤ → List ℤ → ℕ → Bool
is_writable s kerns i =
    both (not (is_kind 3 s i))
    (both (absent_or 127 (field s i 0)) (cond (is_kind 1 s i) (ltb (word_of (field s i 3)) (length kerns)) true))

-- a character has a word in the file, and its width index is not 0
abbrev pub is_in_file : List ℕ → ℕ → Bool
is_in_file old c =
    both (leb (lengths_of old).bc c)
    (both (leb c (lengths_of old).ec)
    (not (eqb (word_byte old (char_start (lengths_of old) + (c - (lengths_of old).bc)) 0) 0)))

-- entry i of n instructions can be written: its character is in the file, and it leads to an instruction
abbrev pub is_entry_writable : List ℕ → List ℤ → ℕ → ℕ → Bool
is_entry_writable old es n i = both (is_in_file old (word_of (char_at es i))) (ltb (word_of (entry_at es i)) n)

-- a boundary character is absent, or there is an instruction to stand beside the one that holds it
abbrev pub is_boundary_writable : ℤ → ℕ → Bool
is_boundary_writable boundary n = cond (non_neg boundary) (ltb 0 n) true

-- a left entry is absent, or leads to an instruction
abbrev pub is_left_writable : ℤ → ℕ → Bool
is_left_writable left n = cond (non_neg left) (ltb (word_of left) n) true

-- 18: what no file holds, or what would make this one longer than 32,767 words, by its n words of the lig/kern section and k kerns
abbrev pub writable_refusal : List ℕ → Writable → ℕ → ℕ → ℕ
writable_refusal old f n k =
    unless 18
    (both (is_boundary_writable f.boundary (count f.instructions))
    (both (every (count f.instructions) (is_writable f.instructions f.kerns))
    (both (every (length f.entries / 2) (is_entry_writable old f.entries (count f.instructions)))
    (both (is_left_writable f.left (count f.instructions))
    (leb (written_size old n k) 32767)))))

-- what a file is refused with that is to be written into `room` bytes: 1, 2, 3, 4, 10, 11, 17, 18, 15
abbrev pub write_refusal : List ℕ → Writable → ℕ → ℕ
write_refusal old f room =
    or_else (pack_font_refusal f)
    (or_else (lengths_refusal old)
    (or_else (writable_refusal old f (count (written_instructions f)) (length (written_kerns f)))
    (room_refusal (4 * written_size old (count (written_instructions f)) (length (written_kerns f))) room)))

-- ---- the contracts

-- an answer as a number and values: how many words of the lig/kern section and how many kerns there are
abbrev pub packed_font_reply : PackedFont → Reply
packed_font_reply (Sizes n k) = reply_of 0 (pos n ∷ pos k ∷ [])
packed_font_reply (Refused n) = record { number = n; values = [] }

-- the numbers of packing a font, and 15 where a list is shorter than any font's: 132,096, 32,767 and 512 places
abbrev pub pack_font_number : Writable → ℕ → ℕ → ℕ → ℕ
pack_font_number f room kernRoom entryRoom =
    or_else (pack_font_refusal f) (or_else (room_refusal 132096 room) (or_else (room_refusal 32767 kernRoom) (room_refusal 512 entryRoom)))

-- the contract of pack_font: the sizes, or the number; and each list with zeros after what is written, or zeros alone
pub record PacksFont (f : Writable) (out kernsOut entriesOut : List ℤ) (r : PackedFont) (out' kernsOut' entriesOut' : List ℤ) : Type 0 where
  pub answer : packed_font_reply r ≡
      reply_of (pack_font_number f (length out) (length kernsOut) (length entriesOut))
      (pos (count (written_instructions f)) ∷ pos (length (written_kerns f)) ∷ [])
  pub program : out' ≡
      list_of (pack_font_number f (length out) (length kernsOut) (length entriesOut)) (pos 0) (length out) (written_instructions f)
  pub kern_list : kernsOut' ≡
      list_of (pack_font_number f (length out) (length kernsOut) (length entriesOut)) (pos 0) (length kernsOut) (written_kerns f)
  pub entry_list : entriesOut' ≡
      list_of (pack_font_number f (length out) (length kernsOut) (length entriesOut)) (pos 0) (length entriesOut)
      (packed_entries (shared_font f))

-- THE contract of replace_lig_kern_program: how many bytes the file has, or the number; and the file and zeros, or zeros alone
pub record ReplacesProgram (old : List ℕ) (f : Writable) (out : List ℕ) (r : Written) (out' : List ℕ) : Type 0 where
  pub answer : written_reply r ≡
      reply_of (write_refusal old f (length out))
      (pos (4 * written_size old (count (written_instructions f)) (length (written_kerns f))) ∷ [])
  pub file : out' ≡ list_of (write_refusal old f (length out)) 0 (length out) (written_file old f)
