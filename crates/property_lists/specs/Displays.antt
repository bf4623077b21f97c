-- A font as a property list (TFtoPL 34 to 38, 66 to 77): the text, what is not written as one (24), and the contract of `display`. Bytes are
-- those of ASCII: 10 a line feed, 32 a blank, 40 and 41 parentheses, 47 a slash, 62 an arrow, 65 to 90 the letters.
use Rattle.std.specs.Prelude.{◌≡◌, Bool, true, false, cond, not, List, [], ◌∷◌, ◌++◌, ℕ, zero, suc, ◌+◌, ◌/◌, ◌%◌, ℤ, pos, negsuc, leb, ltb, eqb, length, get_or, replicate}
use Rattle.words.specs.Words.{word_of}
use Rattle.lang.specs.Every.{both, every}
use Rattle.lang.specs.Operations.{advance, keeps_left, keeps_right, is_standard}
use Rattle.lang.specs.Records.{count, field, is_kind, right_of}
use Rattle.lang.specs.Checks.{unless, or_else, program_refusal, kerns_refusal, entries_refusal, absent_refusal, entry_at}
use Rattle.lang.specs.Entries.{entries_table}
use Rattle.lang.specs.declared.Written.{Written}
use Rattle.lang.specs.Answers.{room_refusal, written_reply, reply_of, list_of}
use Rattle.points.specs.Printing.{whole_text}
use Rattle.property_lists.specs.RealTexts.{real_text}

-- ---- values

-- the last octal digit of n, and nothing where n is 0: a digit before the last one
abbrev pub leading_octal : ℕ → List ℕ
leading_octal n = cond (eqb n 0) [] ((48 + n % 8) ∷ [])

-- R445: a character, ` O ` and its code in octal without zeros in front (TFtoPL 36)
abbrev pub octal_char : ℕ → List ℕ
octal_char c = 32 ∷ 79 ∷ 32 ∷ (leading_octal (c / 64) ++ (leading_octal (c / 8) ++ ((48 + c % 8) ∷ [])))

-- a line's end, `)` and a line feed
abbrev pub line_end : List ℕ
line_end = 41 ∷ 10 ∷ []

-- ---- the properties of LIGTABLE, each a line after three blanks

-- R446: `   (LABEL O 40)`
abbrev pub label_line : ℕ → List ℕ
label_line c = 32 ∷ 32 ∷ 32 ∷ 40 ∷ 76 ∷ 65 ∷ 66 ∷ 69 ∷ 76 ∷ (octal_char c ++ line_end)

-- `   (LABEL BOUNDARYCHAR)`
abbrev pub boundary_label_line : List ℕ
boundary_label_line =
    32 ∷ 32 ∷ 32 ∷ 40 ∷ 76 ∷ 65 ∷ 66 ∷ 69 ∷ 76 ∷ 32 ∷ 66 ∷ 79 ∷ 85 ∷ 78 ∷ 68 ∷ 65 ∷ 82 ∷ 89 ∷ 67 ∷ 72 ∷ 65 ∷ 82 ∷ line_end

-- LIG with a slash before it where the left character is retained, one behind it where the right is, and an arrow for each step of the cursor
-- (TFtoPL 77)
abbrev pub lig_name : ℕ → List ℕ
lig_name op = replicate (keeps_left op) 47 ++ (76 ∷ 73 ∷ 71 ∷ (replicate (keeps_right op) 47 ++ replicate (advance op) 62))

-- `   (LIG O 151 O 310)`: the name of an op byte, the right character and the one that is inserted
abbrev pub lig_line : ℕ → ℕ → ℕ → List ℕ
lig_line op right inserted = 32 ∷ 32 ∷ 32 ∷ 40 ∷ (lig_name op ++ (octal_char right ++ (octal_char inserted ++ line_end)))

-- `   (KRN O 41 R 0.125)` (TFtoPL 76)
abbrev pub krn_line : ℕ → ℤ → List ℕ
krn_line right kern = 32 ∷ 32 ∷ 32 ∷ 40 ∷ 75 ∷ 82 ∷ 78 ∷ (octal_char right ++ (32 ∷ 82 ∷ 32 ∷ (real_text kern ++ line_end)))

-- R447: nothing where the next instruction follows, `   (STOP)` where none does, `   (SKIP D 3)` where some are skipped (TFtoPL 75)
abbrev pub next_line : ℤ → List ℕ
next_line (negsuc n) = 32 ∷ 32 ∷ 32 ∷ 40 ∷ 83 ∷ 84 ∷ 79 ∷ 80 ∷ line_end
next_line (pos zero) = []
next_line (pos (suc n)) = 32 ∷ 32 ∷ 32 ∷ 40 ∷ 83 ∷ 75 ∷ 73 ∷ 80 ∷ 32 ∷ 68 ∷ 32 ∷ (whole_text (suc n) ++ line_end)

-- ---- an instruction

-- the kern of instruction i: the value that it holds, or that at its index
abbrev pub kern_shown : List ℤ → List ℤ → ℕ → ℤ
kern_shown s kerns i = cond (is_kind 1 s i) (get_or kerns (word_of (field s i 3)) (pos 0)) (field s i 3)

-- the op byte of a ligature instruction, and the character that it inserts
abbrev pub op_byte_of : List ℤ → ℕ → ℕ
op_byte_of s i = word_of (field s i 3) / 256

abbrev pub inserted_of : List ℤ → ℕ → ℕ
inserted_of s i = word_of (field s i 3) % 256

-- the step
abbrev pub step_line : List ℤ → List ℤ → ℕ → List ℕ
step_line s kerns i =
    cond (is_kind 2 s i) (lig_line (op_byte_of s i) (right_of s i) (inserted_of s i)) (krn_line (right_of s i) (kern_shown s kerns i))

-- the labels of instruction i for the characters below n, ascending; t is the table of 257 entries
unfoldable pub char_labels : List ℤ → ℕ → ℕ → List ℕ
char_labels t i zero = []
char_labels t i (suc n) = char_labels t i n ++ cond (eqb (word_of (get_or t n (pos 0))) i) (label_line n) []

-- R446: all labels of instruction i, that of the left boundary first (TFtoPL 68, 72)
abbrev pub label_lines : List ℤ → ℕ → List ℕ
label_lines t i = cond (eqb (word_of (get_or t 256 (pos 0))) i) boundary_label_line [] ++ char_labels t i 256

-- instruction i: its labels, its step, and where it goes on
abbrev pub instruction_lines : List ℤ → List ℤ → List ℤ → ℕ → List ℕ
instruction_lines s kerns t i = label_lines t i ++ (step_line s kerns i ++ next_line (field s i 0))

-- the first n instructions, reached or not
unfoldable pub program_lines : List ℤ → List ℤ → List ℤ → ℕ → List ℕ
program_lines s kerns t zero = []
program_lines s kerns t (suc n) = program_lines s kerns t n ++ instruction_lines s kerns t n

-- ---- the whole

-- R448: `(BOUNDARYCHAR O 40)`, nothing where there is none (TFtoPL 69)
abbrev pub boundary_line : ℤ → List ℕ
boundary_line (negsuc n) = []
boundary_line (pos c) =
    40 ∷ 66 ∷ 79 ∷ 85 ∷ 78 ∷ 68 ∷ 65 ∷ 82 ∷ 89 ∷ 67 ∷ 72 ∷ 65 ∷ 82 ∷ (octal_char c ++ line_end)

-- `(LIGTABLE`, its properties, and `   )`; nothing where there are no instructions (TFtoPL 66)
abbrev pub lig_table_lines : List ℤ → List ℤ → List ℤ → List ℕ
lig_table_lines s kerns t =
    cond (eqb (count s) 0) []
    (40 ∷ 76 ∷ 73 ∷ 71 ∷ 84 ∷ 65 ∷ 66 ∷ 76 ∷ 69 ∷ 10 ∷ (program_lines s kerns t (count s) ++ (32 ∷ 32 ∷ 32 ∷ line_end)))

-- the text of a font
abbrev pub display_text : List ℤ → List ℤ → List ℤ → ℤ → ℤ → List ℕ
display_text s kerns es boundary left = boundary_line boundary ++ lig_table_lines s kerns (entries_table es left)

-- ---- 24 (R449): what is not written

-- a kern other than -2 ^ 31, which has no text that is read back
abbrev pub has_text : ℤ → Bool
has_text kern = not (eqb (word_of kern) 2147483648)

-- next: none, or at most 127 and to an instruction
abbrev pub next_shown : ℕ → ℕ → ℤ → Bool
next_shown n i (negsuc m) = true
next_shown n i (pos m) = both (leb m 127) (ltb (i + 1 + m) n)

-- the operand by its kind: a kern with a text, a kern index below the length, a standard op byte; no redirect
abbrev pub operand_shown : ℕ → ℕ → ℤ → Bool
operand_shown kerns kind z =
    cond (eqb kind 0) (has_text z) (cond (eqb kind 1) (ltb (word_of z) kerns) (cond (eqb kind 2) (is_standard (word_of z / 256)) false))

-- instruction i, with so many kerns
abbrev pub instruction_shown : List ℤ → ℕ → ℕ → Bool
instruction_shown s kerns i = both (next_shown (count s) i (field s i 0)) (operand_shown kerns (word_of (field s i 2)) (field s i 3))

-- every kern of the list, used or not
abbrev pub kerns_shown : List ℤ → Bool
kerns_shown kerns = every (length kerns) (λ i. has_text (get_or kerns i (pos 0)))

-- every entry is one of n instructions
abbrev pub entries_shown : ℕ → List ℤ → Bool
entries_shown n es = every (length es / 2) (λ i. ltb (word_of (entry_at es i)) n)

-- the left entry: none, or an instruction
abbrev pub left_shown : ℕ → ℤ → Bool
left_shown n (negsuc m) = true
left_shown n (pos m) = ltb m n

-- all of a font
abbrev pub shows_all : List ℤ → List ℤ → List ℤ → ℤ → Bool
shows_all s kerns es left =
    both (every (count s) (instruction_shown s (length kerns)))
    (both (kerns_shown kerns) (both (entries_shown (count s) es) (left_shown (count s) left)))

-- 3, else 4
abbrev pub lent_fault : List ℤ → List ℤ → ℤ → ℤ → ℕ
lent_fault kerns es boundary left =
    or_else (kerns_refusal kerns) (or_else (entries_refusal 65535 es) (or_else (absent_refusal 255 boundary) (absent_refusal 65535 left)))

-- 1, 2, 3, 4, else 24
abbrev pub display_fault : List ℤ → List ℤ → List ℤ → ℤ → ℤ → ℕ
display_fault s kerns es boundary left =
    or_else (program_refusal s) (or_else (lent_fault kerns es boundary left) (unless 24 (shows_all s kerns es left)))

-- 15 is of a text that there is, so it comes after 24
abbrev pub display_refusal : List ℤ → List ℤ → List ℤ → ℤ → ℤ → ℕ → ℕ
display_refusal s kerns es boundary left room =
    or_else (display_fault s kerns es boundary left) (room_refusal (length (display_text s kerns es boundary left)) room)

-- THE contract of display: the text and zeros, and its length; or the number, and zeros
pub record Displays (s kerns es : List ℤ) (boundary left : ℤ) (text : List ℕ) (r : Written) (text' : List ℕ) : Type 0 where
  pub answer : written_reply r ≡
      reply_of (display_refusal s kerns es boundary left (length text)) (pos (length (display_text s kerns es boundary left)) ∷ [])
  pub list : text' ≡ list_of (display_refusal s kerns es boundary left (length text)) 0 (length text) (display_text s kerns es boundary left)
