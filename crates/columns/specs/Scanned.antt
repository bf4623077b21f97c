-- What the functions that read a field and a text answer, and what they leave in every list. A text is read into lists of the sizes that
-- its limits need (R197 to R199); what is unreadable is 16 (R245), with zeros in every list (R252).
use Rattle.std.specs.Prelude.{◌≡◌, List, [], ◌∷◌, map, ℕ, ℤ, pos, negsuc, length, take, drop}
use Rattle.std.proofs.Math.Option.{Option, none, some}
use Rattle.words.specs.Words.{word_of}
use Rattle.lang.specs.Answers.{Reply, reply_of, list_of}
use Rattle.columns.specs.declared.TextHeads.{TextHeads}
use Rattle.std.specs.Prelude as rust
use Rattle.columns.specs.Numbers.{read_field}
use Rattle.columns.specs.Texts.{Text, opened, read_text, or_absent, shared_text}

-- ---- a field

-- what read_field answers: the number, or 16
abbrev pub field_reply : rust.Option ℤ → Reply
field_reply (rust.Some z) = reply_of 0 (z ∷ [])
field_reply rust.None = reply_of 16 []

-- a number that was read, or 16
abbrev pub number_reply : Option ℤ → Reply
number_reply none = reply_of 16 []
number_reply (some z) = reply_of 0 (z ∷ [])

-- THE contract of read_field: the 12 bytes from a place on, fewer where the text ends
abbrev pub field_at : List ℕ → ℕ → Reply
field_at bytes at = number_reply (read_field (take 12 (drop at bytes)))

-- ---- a text

-- the letters of a word; none where there is no word
abbrev pub letters_of : Option (List ℤ) → List ℤ
letters_of none = []
letters_of (some zs) = zs

-- how many characters the word has, and -1 where there is no word
abbrev pub length_of_word : Option (List ℤ) → ℤ
length_of_word none = negsuc 0
length_of_word (some zs) = pos (length zs)

-- how many letters that is: none where there is no word
abbrev pub letters_in : ℤ → ℕ
letters_in (pos n) = n
letters_in (negsuc n) = 0

-- the seven numbers of the heads: D, R and L, how many numbers I, K and E lines have, and the word's length; -1 for what is absent
abbrev pub head_numbers : TextHeads → List ℤ
head_numbers h =
    h.design ∷ h.boundary ∷ h.left ∷ pos h.instructions ∷ pos h.kerns ∷ pos h.entries ∷ h.letters ∷ []

-- what read_text answers: the heads, or 16
abbrev pub text_read_reply : rust.Option TextHeads → Reply
text_read_reply (rust.Some h) = reply_of 0 (head_numbers h)
text_read_reply rust.None = reply_of 16 []

-- 16 where a text is unreadable
abbrev pub text_refusal : Option Text → ℕ
text_refusal none = 16
text_refusal (some t) = 0

-- what a text says; nothing where it is unreadable
abbrev pub said_by : Option Text → Text
said_by none = opened (pos 0)
said_by (some t) = t

-- the same seven numbers, of what a text says
abbrev pub text_heads : Text → List ℤ
text_heads t =
    t.design ∷ or_absent t.boundary ∷ or_absent t.left
    ∷ pos (length t.instructions) ∷ pos (length t.kerns) ∷ pos (length t.entries) ∷ length_of_word t.word ∷ []

-- what reading a text answers and leaves, `room` the places for kerns: the heads, or 16; and the lists, as long as they were, with zeros
-- after them, or zeros
pub record ReadsTextAs (o : Option Text) (room : ℕ) (r : rust.Option TextHeads) (instructions' kerns' entries' : List ℤ) (word' : List ℕ) : Type 0 where
  pub answer : text_read_reply r ≡ reply_of (text_refusal o) (text_heads (said_by o))
  pub long : (length instructions' ≡ 2048) × (length kerns' ≡ room) × (length entries' ≡ 5040) × (length word' ≡ 64)
  pub instructions : instructions' ≡ list_of (text_refusal o) (pos 0) 2048 (said_by o).instructions
  pub kerns : kerns' ≡ list_of (text_refusal o) (pos 0) room (said_by o).kerns
  pub entries : entries' ≡ list_of (text_refusal o) (pos 0) 5040 (said_by o).entries
  pub word : word' ≡ list_of (text_refusal o) 0 64 (map word_of (letters_of (said_by o).word))

-- THE contract of read_text: what stands in the text
abbrev pub ReadsText : List ℕ → rust.Option TextHeads → List ℤ → List ℤ → List ℤ → List ℕ → Type 0
ReadsText bytes r instructions kerns entries word = ReadsTextAs (read_text bytes) 512 r instructions kerns entries word

-- a text that was read, with its kern values shared
abbrev pub shared_read : Option Text → Option Text
shared_read none = none
shared_read (some t) = some (shared_text t)

-- THE contract of read_shared: the same with its kern values shared, of which there may be one more for each instruction
abbrev pub ReadsShared : List ℕ → rust.Option TextHeads → List ℤ → List ℤ → List ℤ → List ℕ → Type 0
ReadsShared bytes r instructions kerns entries word = ReadsTextAs (shared_read (read_text bytes)) 1024 r instructions kerns entries word
