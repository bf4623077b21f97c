-- Packing (R154 to R163): entries above 255 become redirects at the front, after `pack_entrypoints` of ligkern/lang.rs. PLtoTF 139 to 142:
-- the redirects, and 'location 0 can do double duty'; the labels and the offset are those of crate pack_labels.
use Rattle.std.specs.Prelude.{◌≡◌, Bool, cond, List, [], ◌∷◌, ◌++◌, ℕ, zero, suc, ◌+◌, ◌*◌, ◌%◌, ℤ, pos, negsuc, leb, ltb, eqb, length, get_or}
use Rattle.std.specs.Int.Signed.{non_neg}
use Rattle.words.specs.Words.{word_of}
use Rattle.words.specs.Lists.{tabulate}
use Rattle.pack.specs.declared.Packed.{Packed}
use Rattle.pack.specs.declared.Packed.TheVariants.{Sizes, Refused}
use Rattle.lang.specs.Records.{count}
use Rattle.lang.specs.Checks.{program_refusal, entries_refusal, absent_refusal, or_else}
use Rattle.lang.specs.Answers.{Reply, reply_of, room_refusal, list_of}
use Rattle.pack_labels.specs.Labels.{labels_of, redirects_of, offset_by, largest}

-- ---- PLtoTF 141 and 142: the packed entries and the instructions

-- the place of an entry among the labels; how many labels there are where it is none of them (R156)
unfoldable pub place_among : ℕ → List ℕ → ℕ
place_among e [] = 0
place_among e (l ∷ ls) = cond (eqb l e) 0 (suc (place_among e ls))

-- an entry packed: the place of its redirect, or itself shifted by the offset
abbrev pub packed_entry : ℕ → ℕ → List ℕ → ℕ → ℕ
packed_entry redirects offset ls e = cond (ltb (place_among e ls) redirects) (place_among e ls) (e + offset)

-- the four numbers of a redirect: no next, the boundary character or 0, kind 3, the target, and the flag (R159)
abbrev pub redirect : ℤ → ℕ → ℕ → List ℤ
redirect right target flag = negsuc 0 ∷ right ∷ pos 3 ∷ pos (target + 65536 * flag) ∷ []

-- the boundary character, and 0 where there is none
abbrev pub present_or : ℤ → ℤ
present_or (pos b) = pos b
present_or (negsuc n) = pos 0

-- the redirects to the first k labels, shifted by the offset, four numbers each
unfoldable pub redirects_to : ℤ → ℕ → ℕ → List ℕ → List ℤ
redirects_to right offset zero ls = []
redirects_to right offset (suc k) [] = []
redirects_to right offset (suc k) (l ∷ ls) = redirect right (l + offset) 1 ++ redirects_to right offset k ls

-- in front: the redirects (R154), or the instruction that holds the boundary character (R157), or nothing
abbrev pub front : ℤ → ℕ → ℕ → List ℕ → List ℤ
front boundary zero offset ls = cond (non_neg boundary) (redirect (present_or boundary) 0 1) []
front boundary (suc k) offset ls = redirects_to (present_or boundary) offset (suc k) ls

-- at the end: the shifted entry of the left boundary, where there is one (R160, R161)
abbrev pub back : ℤ → ℕ → List ℤ
back (negsuc n) offset = []
back (pos left) offset = redirect (pos 0) (left + offset) 0

-- a font to be packed; a boundary character and a left entry of -1 are absent
pub record Packable : Type 0 where
  pub instructions : List ℤ
  pub entries : List ℤ
  pub boundary : ℤ
  pub left : ℤ

-- the same from the lists and numbers that are lent
abbrev pub packable : List ℤ → List ℤ → ℤ → ℤ → Packable
packable s es b l = record { instructions = s; entries = es; boundary = b; left = l }

-- how many redirects a font needs
abbrev pub font_redirects : Packable → ℕ
font_redirects f = redirects_of (non_neg f.boundary) (labels_of f.entries)

-- how many instructions come to stand in front of its own: the redirects, or the one that holds the boundary character
abbrev pub font_offset : Packable → ℕ
font_offset f = offset_by (non_neg f.boundary) (font_redirects f)

-- the packed program: what stands in front, the font's own instructions, and what stands at the end
abbrev pub packed_instructions : Packable → List ℤ
packed_instructions f =
    front f.boundary (font_redirects f) (font_offset f) (labels_of f.entries) ++ f.instructions ++ back f.left (font_offset f)

-- number j of the packed entries (R162): characters as they were lent, and their packed entries, by the redirects, the offset and the
-- labels
abbrev pub entry_number : List ℤ → ℕ → ℕ → List ℕ → ℕ → ℤ
entry_number es redirects offset ls j =
    cond (eqb (j % 2) 0) (get_or es j (pos 0)) (pos (packed_entry redirects offset ls (word_of (get_or es j (pos 0)))))

-- number j of a font's packed entries
abbrev pub packed_entry_number : Packable → ℕ → ℤ
packed_entry_number f = entry_number f.entries (font_redirects f) (font_offset f) (labels_of f.entries)

-- all packed entries, two numbers each
abbrev pub packed_entries : Packable → List ℤ
packed_entries f = tabulate (length f.entries) (packed_entry_number f)

-- ---- refusals

-- 10 (R239): packing needs 256 redirects
abbrev pub redirect_refusal : ℕ → ℕ
redirect_refusal k = cond (leb k 255) 0 10

-- an entry plus the offset is at most 65,535 (R240)
abbrev pub fits_shifted : ℕ → ℕ → Bool
fits_shifted e offset = leb (e + offset) 65535

-- the left entry, and 0 where there is none
abbrev pub left_or : ℤ → ℕ
left_or (pos n) = n
left_or (negsuc n) = 0

-- 11: the largest entry, or the left entry, plus the offset passes 65,535
abbrev pub shift_refusal : ℕ → ℕ → ℕ → ℕ
shift_refusal big left offset = cond (fits_shifted big offset) (cond (fits_shifted left offset) 0 11) 11

-- 1, 2 or 4 of the font, the lowest that holds
abbrev pub packable_refusal : Packable → ℕ
packable_refusal f =
    or_else (program_refusal f.instructions)
    (or_else (entries_refusal 65535 f.entries) (or_else (absent_refusal 255 f.boundary) (absent_refusal 65535 f.left)))

-- 1, 2, 4, 10, 11 or 15, the lowest that holds, for lists of `room` and `entryRoom` places
abbrev pub packing_refusal : Packable → ℕ → ℕ → ℕ
packing_refusal f room entryRoom =
    or_else (packable_refusal f)
    (or_else (redirect_refusal (font_redirects f))
    (or_else (shift_refusal (largest (labels_of f.entries)) (left_or f.left) (font_offset f))
    (or_else (room_refusal (length (packed_instructions f)) room) (room_refusal (length f.entries) entryRoom))))

-- ---- the answer

-- how many instructions there are now, the offset and the number of redirects (R162)
abbrev pub packed_sizes : Packable → List ℤ
packed_sizes f = pos (count (packed_instructions f)) ∷ pos (font_offset f) ∷ pos (font_redirects f) ∷ []

-- an answer as a number and values (R285)
abbrev pub packed_reply : Packed → Reply
packed_reply (Sizes n offset redirects) = reply_of 0 (pos n ∷ pos offset ∷ pos redirects ∷ [])
packed_reply (Refused n) = record { number = n; values = [] }

-- the contract of pack_entrypoints: the sizes, or the number; the packed program and entries with zeros after them, or zeros
pub record Packs (f : Packable) (out entriesOut : List ℤ) (r : Packed) (out' entriesOut' : List ℤ) : Type 0 where
  pub answer : packed_reply r ≡ reply_of (packing_refusal f (length out) (length entriesOut)) (packed_sizes f)
  pub instructions : out' ≡ list_of (packing_refusal f (length out) (length entriesOut)) (pos 0) (length out) (packed_instructions f)
  pub entries : entriesOut' ≡ list_of (packing_refusal f (length out) (length entriesOut)) (pos 0) (length entriesOut) (packed_entries f)
