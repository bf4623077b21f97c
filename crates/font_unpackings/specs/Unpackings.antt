-- A font whose entries lead to its instructions, as reading a file leaves it (file_fonts/specs/Meant), without what packing put beside its
-- own instructions (pack/specs/Packing, PLtoTF 139 to 142): redirects in front, and at the end, where there is a left entry, the
-- instruction that holds it.
use Rattle.std.specs.Prelude.{◌≡◌, Bool, true, cond, not, List, [], ◌∷◌, ℕ, zero, suc, ◌+◌, ◌-◌, ◌*◌, ◌/◌, ◌%◌, ℤ, pos, negsuc, leb, ltb, eqb, length, get_or, take, drop}
use Rattle.std.specs.Int.Signed.{non_neg}
use Rattle.words.specs.Words.{word_of}
use Rattle.words.specs.Lists.{tabulate}
use Rattle.lang.specs.Every.{both, every}
use Rattle.lang.specs.Records.{count, is_kind}
use Rattle.lang.specs.Checks.{entry_at, program_refusal, entries_refusal, absent_refusal, or_else}
use Rattle.lang.specs.Answers.{Reply, reply_of, room_refusal, list_of}
use Rattle.font_unpackings.specs.declared.UnpackedFont.{UnpackedFont}
use Rattle.font_unpackings.specs.declared.UnpackedFont.TheVariants.{Own, Kept, Refused}

-- ---- where a font's own instructions stand

-- how many redirects stand in front, among the first n instructions
unfoldable pub in_front : List ℤ → ℕ → ℕ
in_front s zero = 0
in_front s (suc n) = cond (every (suc n) (is_kind 3 s)) (suc n) (in_front s n)

-- where they end: before the last instruction where there is a left entry, which that one holds, else at the end
abbrev pub own_end : List ℤ → ℤ → ℕ
own_end s left = cond (non_neg left) (count s - 1) (count s)

-- where they begin: behind the redirects in front
abbrev pub own_start : List ℤ → ℤ → ℕ
own_start s left = in_front s (own_end s left)

-- how many there are
abbrev pub own_count : List ℤ → ℤ → ℕ
own_count s left = own_end s left - own_start s left

-- an index leads to one of them
abbrev pub is_own : List ℤ → ℤ → ℕ → Bool
is_own s left e = both (leb (own_start s left) e) (ltb e (own_end s left))

-- a left entry leads to one of them, and the last instruction, which holds it, is a redirect
abbrev pub left_stands : List ℤ → ℤ → Bool
left_stands s left = cond (non_neg left) (both (is_own s left (word_of left)) (is_kind 3 s (count s - 1))) true

-- redirects stand only where packing puts them: none is among the font's own instructions, and each entry leads to one of these
abbrev pub stands_packed : List ℤ → List ℤ → ℤ → Bool
stands_packed s es left =
    both (every (own_count s left) (λ i. not (is_kind 3 s (own_start s left + i))))
    (both (every (length es / 2) (λ i. is_own s left (word_of (entry_at es i)))) (left_stands s left))

-- ---- the font, by how many instructions are taken away in front

-- number j of the entries, two numbers each: a character as it was, its entry moved back
abbrev pub moved_number : List ℤ → ℕ → ℕ → ℤ
moved_number es front j = cond (eqb (j % 2) 0) (get_or es j (pos 0)) (pos (word_of (get_or es j (pos 0)) - front))

abbrev pub moved_entries : List ℤ → ℕ → List ℤ
moved_entries es front = tabulate (length es) (moved_number es front)

-- a left entry, moved back; -1 stays
abbrev pub left_moved_back : ℤ → ℕ → ℤ
left_moved_back (pos e) front = pos (e - front)
left_moved_back (negsuc n) front = negsuc n

-- its own instructions; all of them where a redirect stands elsewhere
abbrev pub unpacked_program : List ℤ → List ℤ → ℤ → List ℤ
unpacked_program s es left =
    cond (stands_packed s es left) (take (4 * own_count s left) (drop (4 * own_start s left) s)) s

-- its entries
abbrev pub own_entries : List ℤ → List ℤ → ℤ → List ℤ
own_entries s es left = cond (stands_packed s es left) (moved_entries es (own_start s left)) es

-- its left entry
abbrev pub unpacked_left : List ℤ → List ℤ → ℤ → ℤ
unpacked_left s es left = cond (stands_packed s es left) (left_moved_back left (own_start s left)) left

-- ---- the answer

-- 1, 2 or 4 of the font, then 15, for lists of so many places
abbrev pub unpack_font_refusal : List ℤ → List ℤ → ℤ → ℕ → ℕ → ℕ
unpack_font_refusal s es left room entryRoom =
    or_else (program_refusal s)
    (or_else (entries_refusal 65535 es)
    (or_else (absent_refusal 65535 left)
    (or_else (room_refusal (length (unpacked_program s es left)) room) (room_refusal (length es) entryRoom))))

-- an answer as a number and values: how many instructions stood in front, how many are the font's own, its left entry; nothing where the
-- font is as it was
abbrev pub unpacked_font_reply : UnpackedFont → Reply
unpacked_font_reply (Own front n left) = reply_of 0 (pos front ∷ pos n ∷ left ∷ [])
unpacked_font_reply Kept = reply_of 0 []
unpacked_font_reply (Refused n) = record { number = n; values = [] }

-- what a font is answered with that is not refused
abbrev pub unpacked_font_values : List ℤ → List ℤ → ℤ → List ℤ
unpacked_font_values s es left =
    cond (stands_packed s es left)
    (pos (own_start s left) ∷ pos (own_count s left) ∷ left_moved_back left (own_start s left) ∷ []) []

-- THE contract of unpacked_font: the answer, and each list with zeros after what is written, or zeros alone
pub record UnpacksFont (s es : List ℤ) (left : ℤ) (out entriesOut : List ℤ) (r : UnpackedFont) (out' entriesOut' : List ℤ) : Type 0 where
  pub answer : unpacked_font_reply r ≡
      reply_of (unpack_font_refusal s es left (length out) (length entriesOut)) (unpacked_font_values s es left)
  pub program : out' ≡
      list_of (unpack_font_refusal s es left (length out) (length entriesOut)) (pos 0) (length out) (unpacked_program s es left)
  pub entry_list : entriesOut' ≡
      list_of (unpack_font_refusal s es left (length out) (length entriesOut)) (pos 0) (length entriesOut) (own_entries s es left)
