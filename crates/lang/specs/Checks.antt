-- The refusals 1 to 5 (R230 to R234), each the number where it holds and 0 where it does not; and what a letter is (R371).
use Rattle.std.specs.Prelude.{Bool, true, cond, not, List, ℕ, zero, suc, ◌+◌, ◌*◌, ◌/◌, ◌%◌, ℤ, pos, leb, eqb, length, get_or}
use Rattle.std.specs.Int.Signed.{non_neg}
use Rattle.words.specs.Words.{word_of}
use Rattle.lang.specs.Every.{both, every}
use Rattle.lang.specs.Records.{count, is_instruction, within, absent_or}

-- the number n unless the test passes
abbrev pub unless : ℕ → Bool → ℕ
unless n t = cond t 0 n

-- 1 (R230): instruction numbers not in fours, or over 32,767 instructions
abbrev pub size_refusal : List ℤ → ℕ
size_refusal s = unless 1 (both (eqb (length s % 4) 0) (leb (count s) 32767))

-- 2 (R231): a record is no instruction
abbrev pub record_refusal : List ℤ → ℕ
record_refusal s = unless 2 (every (count s) (is_instruction s))

-- 3 (R232): over 32,767 kerns
abbrev pub kerns_refusal : List ℤ → ℕ
kerns_refusal kerns = unless 3 (leb (length kerns) 32767)

-- the character at place i of the entries, which are two numbers each; 0 past the last
abbrev pub char_at : List ℤ → ℕ → ℤ
char_at es i = get_or es (2 * i) (pos 0)

-- the entry of that character; 0 past the last
abbrev pub entry_at : List ℤ → ℕ → ℤ
entry_at es i = get_or es (2 * i + 1) (pos 0)

-- no place before i has the character of place i (R33)
abbrev pub entered_once : List ℤ → ℕ → Bool
entered_once es i = every i (λ j. not (eqb (word_of (char_at es j)) (word_of (char_at es i))))

-- place i of the entries: a character of 0 to 255, an entry of 0 to the limit, and a character that no place before it has
abbrev pub entry_fits : ℕ → List ℤ → ℕ → Bool
entry_fits limit es i = both (within 255 (char_at es i)) (both (within limit (entry_at es i)) (entered_once es i))

-- 4 (R233): entry numbers not in twos, a character or an entry out of range, a character entered twice. The limit is 65,535 (R33); for
-- unpacking and repair it is 255 (R34).
abbrev pub entries_refusal : ℕ → List ℤ → ℕ
entries_refusal limit es = unless 4 (both (eqb (length es % 2) 0) (every (length es / 2) (entry_fits limit es)))

-- 4 (R233): a boundary character (R35), an override (R37) or a left entry (R36) out of range; n is 255 for the character, 65,535 for the
-- entry, and the greatest i32 for the override, which is 20 where it is no letter
abbrev pub absent_refusal : ℕ → ℤ → ℕ
absent_refusal n z = unless 4 (absent_or n z)

-- 4 (R233): a character or an entry that must be there, out of range
abbrev pub range_refusal : ℕ → ℤ → ℕ
range_refusal n z = unless 4 (within n z)

-- 4 (R233): passthrough of another length than one byte an instruction (R39)
abbrev pub passthrough_refusal : List ℕ → List ℤ → ℕ
passthrough_refusal p s = unless 4 (eqb (length p) (count s))

-- 5 (R234): design size negative
abbrev pub design_refusal : ℤ → ℕ
design_refusal z = unless 5 (non_neg z)

-- the first of two numbers that is not 0: the lowest that holds (R246), where they are asked in ascending order
abbrev pub or_else : ℕ → ℕ → ℕ
or_else zero n = n
or_else (suc m) n = suc m

-- the lower of two numbers of which 0 is none: the lowest that holds, whatever the order in which they are asked
abbrev pub lower : ℕ → ℕ → ℕ
lower zero n = n
lower (suc m) zero = suc m
lower (suc m) (suc n) = cond (leb m n) (suc m) (suc n)

-- a letter (R371): 0 to 1,114,111, surrogates (55,296 to 57,343) aside
abbrev pub is_letter : ℕ → Bool
is_letter c = cond (leb c 55295) true (both (leb 57344 c) (leb c 1114111))

-- the refusals of a program alone
abbrev pub program_refusal : List ℤ → ℕ
program_refusal s = or_else (size_refusal s) (record_refusal s)
