-- What is written into a font file: the bytes of a length, of a word of the lig/kern section, of a kern and of a character's word (TeX 540
-- to 545, PLtoTF 142). What passes a byte is left off; nothing of a font that is taken does.
use Rattle.std.specs.Prelude.{cond, List, [], ◌∷◌, ◌++◌, ℕ, zero, suc, ◌+◌, ◌-◌, ◌*◌, ◌/◌, ◌%◌, min, ℤ, pos, eqb, length, get_or, take, drop}
use Rattle.std.specs.Int.Signed.{non_neg}
use Rattle.words.specs.Words.{word_of}
use Rattle.words.specs.Lists.{tabulate}
use Rattle.lang.specs.Records.{count, field, right_of, is_kind}
use Rattle.files.specs.Commands.{word_byte}

-- ---- parts of a file

-- the bytes of a file from a up to e
abbrev pub file_bytes : List ℕ → ℕ → ℕ → List ℕ
file_bytes file a e = take (e - a) (drop a file)

-- the bytes of n words, by the word and the place of the byte in it, 0 to 3
abbrev pub section_bytes : ℕ → (ℕ → ℕ → ℕ) → List ℕ
section_bytes n f = tabulate (4 * n) (λ j. f (j / 4) (j % 4))

-- a part that is lent with n words in front, or as many as there is room for, and the rest as it came
abbrev pub words_in_front : ℕ → (ℕ → ℕ → ℕ) → List ℕ → List ℕ
words_in_front n f out = section_bytes (min n (length out / 4)) f ++ drop (4 * min n (length out / 4)) out

-- so with bytes
abbrev pub bytes_in_front : List ℕ → List ℕ → List ℕ
bytes_in_front bytes out = take (length out) bytes ++ drop (length bytes) out

-- ---- bytes

-- a length: two bytes, the higher first
abbrev pub half_bytes : ℕ → List ℕ
half_bytes n = n / 256 % 256 ∷ n % 256 ∷ []

-- byte j of the 32 bits of a word, the highest first
abbrev pub byte_of : ℕ → ℕ → ℕ
byte_of w zero = w / 16777216 % 256
byte_of w (suc zero) = w / 65536 % 256
byte_of w (suc (suc zero)) = w / 256 % 256
byte_of w (suc (suc (suc j))) = w % 256

-- byte j of kern i
abbrev pub kern_byte : List ℤ → ℕ → ℕ → ℕ
kern_byte kerns i j = byte_of (word_of (get_or kerns i (pos 0))) j

-- the first byte of instruction i of a packed program: of a redirect 255, where there is a boundary character or it is the last
-- instruction, and else 254; of another its next, and 128 where it has none
abbrev pub first_byte : List ℤ → ℤ → ℕ → ℕ
first_byte s boundary i =
    cond (is_kind 3 s i)
    (cond (non_neg boundary) 255 (cond (eqb (suc i) (count s)) 255 254))
    (cond (non_neg (field s i 0)) (word_of (field s i 0) % 256) 128)

-- its last two bytes as one number: of a kern 32,768 and its index; of a ligature op byte and character; of a redirect the target,
-- its flag left off
abbrev pub last_half : List ℤ → ℕ → ℕ
last_half s i = cond (is_kind 1 s i) (32768 + word_of (field s i 3) % 32768) (word_of (field s i 3) % 65536)

-- byte j of instruction i
abbrev pub command_byte : List ℤ → ℤ → ℕ → ℕ → ℕ
command_byte s boundary i zero = first_byte s boundary i
command_byte s boundary i (suc zero) = right_of s i
command_byte s boundary i (suc (suc zero)) = last_half s i / 256
command_byte s boundary i (suc (suc (suc j))) = last_half s i % 256

-- byte j of a character's word, which was word w of the old file: an entry sets the tag to 1, over any other, and the remainder to the
-- entry; a tag of 1 without an entry gets tag and remainder 0; all else stays (TeX 543, 544)
abbrev pub char_byte : List ℕ → ℤ → ℕ → ℕ → ℕ
char_byte old entry w zero = word_byte old w 0
char_byte old entry w (suc zero) = word_byte old w 1
char_byte old entry w (suc (suc zero)) =
    cond (non_neg entry) (4 * (word_byte old w 2 / 4) + 1)
    (cond (eqb (word_byte old w 2 % 4) 1) (4 * (word_byte old w 2 / 4)) (word_byte old w 2))
char_byte old entry w (suc (suc (suc j))) =
    cond (non_neg entry) (word_of entry % 256)
    (cond (eqb (word_byte old w 2 % 4) 1) 0 (word_byte old w 3))
