-- What the program `ligcols` prints for a text (R213), and the program `ligcols_convert` (R466): its reply, or what it becomes; refused, one
-- line with N and the number.
use Rattle.std.specs.Prelude.{◌≡◌, List, [], ◌∷◌, ℕ, zero, suc, ◌<◌, ℤ, pos, negsuc, length, take}
use Rattle.std.proofs.lemmas.List.Edits.{sets}
use Rattle.lang.specs.Answers.{padded}
use Rattle.columns.specs.Texts.{read_text}
use Rattle.columns.specs.Replying.{line_of, bytes_of}
use Rattle.columns.specs.Ligcols.{number_of_text, bytes_of_text}
use Rattle.columns.specs.Converting.{converted_text, convert_number}

-- N 78: the number of the refusal, in its field, and a line feed
abbrev pub refusal_bytes : ℕ → List ℕ
refusal_bytes n = bytes_of (line_of 78 (pos n ∷ []) ∷ [])

-- by the number: the reply where there is none, else N and the number
abbrev pub printed_bytes : ℕ → List ℕ → List ℕ
printed_bytes zero reply = reply
printed_bytes (suc n) reply = refusal_bytes (suc n)

-- ---- an answer

-- minus a number, which is no higher than the highest i32
pub record IsAnswer (z : ℤ) : Type 0 where
  pub low : (n : ℕ) → z ≡ negsuc n → n < 2147483647

-- how many bytes are printed for a length, or for minus a number
abbrev pub printed_length : ℤ → ℕ
printed_length (pos n) = n
printed_length (negsuc n) = length (refusal_bytes (suc n))

-- .. and what stands in the list then: what stood there, or N in front of it
abbrev pub printed_over : ℤ → List ℕ → List ℕ
printed_over (pos n) out = out
printed_over (negsuc n) out = sets out 0 (refusal_bytes (suc n))

-- what print_number is held to
pub record PrintsNumber (z : ℤ) (out : List ℕ) (r : ℕ) (out' : List ℕ) : Type 0 where
  pub answer : r ≡ printed_length z
  pub list : out' ≡ printed_over z out

-- ---- a text

-- what is printed for a text, whose reply has room for 65,536 bytes (R204)
abbrev pub printed_text : List ℕ → List ℕ
printed_text text = printed_bytes (number_of_text (read_text text) 65536) (bytes_of_text (read_text text))

-- THE contract of print_answer, whatever was read and however much of it is the text. One byte more is read than a text may have, and the
-- list for what is printed is as long as it was; how many bytes are printed; and they, with zeros after them
pub record Prints (read : List ℕ) (got r : ℕ) (out' : List ℕ) : Type 0 where
  pub long : (length read ≡ 65537) × (length out' ≡ 65536)
  pub answer : r ≡ length (printed_text (take got read))
  pub list : out' ≡ padded 0 65536 (printed_text (take got read))

-- what is printed for a text that is written anew
abbrev pub printed_converted : List ℕ → List ℕ
printed_converted text = printed_bytes (convert_number (read_text text) (converted_text text) 65536) (converted_text text)

-- THE contract of print_converted
pub record PrintsConverted (read : List ℕ) (got r : ℕ) (out' : List ℕ) : Type 0 where
  pub long : (length read ≡ 65537) × (length out' ≡ 65536)
  pub answer : r ≡ length (printed_converted (take got read))
  pub list : out' ≡ padded 0 65536 (printed_converted (take got read))

-- ---- what is proved (proofs/Theorems)

-- A text of more than 65,536 bytes is 16 (R197), also for the converter.
abbrev pub LongRefused : Type 0
LongRefused = (input : List ℕ) → 65536 < length input → printed_text input ≡ refusal_bytes 16

abbrev pub LongNotConverted : Type 0
LongNotConverted = (input : List ℕ) → 65536 < length input → printed_converted input ≡ refusal_bytes 16

-- So of standard input, however long, the first 65,537 bytes are enough: what is printed for them is what is printed for all of it.
abbrev pub FirstBytesPrinted : Type 0
FirstBytesPrinted = (input : List ℕ) → printed_text (take 65537 input) ≡ printed_text input

abbrev pub FirstBytesConverted : Type 0
FirstBytesConverted = (input : List ℕ) → printed_converted (take 65537 input) ≡ printed_converted input
