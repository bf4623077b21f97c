-- The reply to a text, as lines and as bytes (R205 to R210). P and its O lines in the table's order, X after all of them, then W and T. The
-- contract of write_reply.
use Rattle.std.specs.Prelude.{◌≡◌, List, [], ◌∷◌, ◌++◌, map, ℕ, zero, suc, ◌+◌, ◌*◌, ◌/◌, ℤ, pos, negsuc, leb, length, get_or}
use Rattle.words.specs.Lists.{tabulate}
use Rattle.lang.specs.declared.Written.{Written}
use Rattle.lang.specs.Every.{both}
use Rattle.lang.specs.Checks.{unless}
use Rattle.lang.specs.Answers.{reply_of, written_reply, list_of}
use Rattle.captions.specs.Tables.{pair_count, number, op_kind, op_value, first_op, count_of}
use Rattle.columns.specs.Lines.{Line, write_line, text_of}

-- a line of this letter and these numbers
abbrev pub line_of : ℕ → List ℤ → Line
line_of letter zs = record { letter = letter; numbers = zs }

-- P 80 (R206): left, right, last, flag, op count
abbrev pub pair_line : List ℤ → ℕ → Line
pair_line pairs k = line_of 80 (number pairs k 0 ∷ number pairs k 1 ∷ number pairs k 2 ∷ number pairs k 3 ∷ number pairs k 5 ∷ [])

-- O 79 (R207): kind, value
abbrev pub op_line : List ℤ → ℕ → Line
op_line ops i = line_of 79 (op_kind ops i ∷ op_value ops i ∷ [])

-- a pair, and its ops
abbrev pub pair_lines : List ℤ → List ℤ → ℕ → List Line
pair_lines pairs ops k = pair_line pairs k ∷ tabulate (count_of pairs k) (λ j. op_line ops (first_op pairs k + j))

-- the first k pairs
unfoldable pub table_lines : List ℤ → List ℤ → ℕ → List Line
table_lines pairs ops zero = []
table_lines pairs ops (suc k) = table_lines pairs ops k ++ pair_lines pairs ops k

-- X 88 (R208): left, right
abbrev pub loop_line : List ℤ → ℕ → Line
loop_line loops i = line_of 88 (get_or loops (2 * i) (pos 0) ∷ get_or loops (2 * i + 1) (pos 0) ∷ [])

-- T 84 (R210): kind, value, the original's start and length, left flag, right flag
abbrev pub item_line : List ℤ → ℕ → Line
item_line items i =
    line_of 84
    (get_or items (6 * i) (pos 0) ∷ get_or items (6 * i + 1) (pos 0) ∷ get_or items (6 * i + 2) (pos 0)
    ∷ get_or items (6 * i + 3) (pos 0) ∷ get_or items (6 * i + 4) (pos 0) ∷ get_or items (6 * i + 5) (pos 0) ∷ [])

-- W 87 (R209): the word's length, and then its items; nothing where there is no word, which a negative length says
abbrev pub word_lines : ℤ → List ℤ → List Line
word_lines (pos n) items = line_of 87 (pos n ∷ []) ∷ tabulate (length items / 6) (item_line items)
word_lines (negsuc n) items = []

-- every line of a reply: P and O, then X, then W and T
abbrev pub reply_lines : List ℤ → List ℤ → List ℤ → ℤ → List ℤ → List Line
reply_lines pairs ops loops letters items =
    table_lines pairs ops (pair_count pairs) ++ tabulate (length loops / 2) (loop_line loops) ++ word_lines letters items

-- lines as bytes: each with its line feed
abbrev pub bytes_of : List Line → List ℕ
bytes_of ls = text_of (map write_line ls)

-- the whole reply as bytes
abbrev pub reply_bytes : List ℤ → List ℤ → List ℤ → ℤ → List ℤ → List ℕ
reply_bytes pairs ops loops letters items = bytes_of (reply_lines pairs ops loops letters items)

-- 15 (R204, R212): over 65,536 bytes, or more than the room there is
abbrev pub reply_refusal : List ℕ → ℕ → ℕ
reply_refusal bytes room = unless 15 (both (leb (length bytes) 65536) (leb (length bytes) room))

-- THE contract of write_reply: how many bytes, and the bytes and zeros; or 15, and zeros
pub record WritesReply (bytes reply : List ℕ) (r : Written) (reply' : List ℕ) : Type 0 where
  pub answer : written_reply r ≡ reply_of (reply_refusal bytes (length reply)) (pos (length bytes) ∷ [])
  pub list : reply' ≡ list_of (reply_refusal bytes (length reply)) 0 (length reply) bytes
