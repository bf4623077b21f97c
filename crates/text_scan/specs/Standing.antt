-- Where reading a text (R188 to R199) stands, and what it holds: the contracts of the functions that read a line.
use Rattle.std.specs.Prelude.{◌≡◌, Bool, true, cond, List, [], ◌∷◌, map, ℕ, ◌+◌, ◌*◌, ◌%◌, ◌<◌, ◌≤◌, ℤ, pos, length, drop, replicate}
use Rattle.std.proofs.Math.Option.{Option, none, some}
use Rattle.std.proofs.lemmas.List.Edits.{sets}
use Rattle.words.specs.Words.{word_of, number_of}
use Rattle.words.specs.Lists.{Appending}
use Rattle.lang.specs.Answers.{Reply, reply_of}
use Rattle.columns.specs.declared.TextHeads.{TextHeads}
use Rattle.std.specs.Prelude as rust
use Rattle.columns.specs.Texts.{Text, opened, read_text, or_absent}
use Rattle.columns.specs.Scanned.{text_read_reply, ReadsText}
use Rattle.text_scan.specs.declared.progress.TextProgress.{TextProgress}
use Rattle.text_scan.specs.declared.progress.NextLine.{NextLine}
use Rattle.text_scan.specs.declared.progress.NextLine.TheVariants as next
use Rattle.text_scan.specs.Following.{rest_of, number_on}

-- zeros, as a list is lent that nothing was written to
unfoldable pub zeros {ℓ} : {A : Type ℓ} → A → ℕ → List A
zeros o n = replicate n o

-- the numbers of the heads, with those of the word's letters
abbrev pub heads_of : TextProgress → ℤ → List ℤ
heads_of p letters =
    number_of p.design ∷ number_of p.boundary ∷ number_of p.left
    ∷ pos p.instructions ∷ pos p.kerns ∷ pos p.entries ∷ letters ∷ []

-- ---- what was read

-- of R or L: its number, if its line was read, and -1 else
pub record HeadSaid (o : Option ℤ) (read : Bool) (w : ℕ) : Type 0 where
  pub is : o ≡ cond read (some (number_of w)) none
  pub said : or_absent o ≡ number_of w

-- the lines so far say t, and the rest added to it is what the text says
pub record TellsText (text : List ℕ) (p : TextProgress) (t : Text) : Type 0 where
  pub within : p.at ≤ length text
  pub rest : rest_of (drop p.at text) (some t) ≡ read_text text
  pub word : t.word ≡ none
  pub design : t.design ≡ number_of p.design
  pub boundary : HeadSaid t.boundary p.bounded p.boundary
  pub left : HeadSaid t.left p.entered p.left
  pub instructions : length t.instructions ≡ p.instructions
  pub kerns : length t.kerns ≡ p.kerns
  pub entries : length t.entries ≡ p.entries
  pub fours : p.instructions % 4 ≡ 0
  pub few : 13 * p.entries + 14 ≤ p.at

-- .. and the lists hold its numbers, with zeros after them
pub record Scanning (text : List ℕ) (p : TextProgress) (instructions kerns entries : List ℤ) : Type 0 where
  pub says : Text
  pub tells : TellsText text p says
  pub in_instructions : Appending says.instructions (zeros (pos 0) 2048) instructions
  pub in_kerns : Appending says.kerns (zeros (pos 0) 512) kerns
  pub in_entries : Appending says.entries (zeros (pos 0) 5040) entries

-- ---- a line

-- a line stands there, in a text that is not too long
pub record Before (text : List ℕ) (p : TextProgress) : Type 0 where
  pub inside : p.at < length text
  pub short : length text ≤ 65536

-- after a line of numbers, if they were read
abbrev pub next_by : Option (List ℤ) → TextProgress → NextLine
next_by none q = next.Unreadable
next_by (some zs) q = next.At q

-- a line of numbers was read: reading stands at q, and they are stored from a place on; or the text is unreadable
pub record TakesLine (o : Option (List ℤ)) (q : TextProgress) (list : List ℤ) (place : ℕ) (r : NextLine) (list' : List ℤ) : Type 0 where
  pub answer : r ≡ next_by o q
  pub stored : (zs : List ℤ) → o ≡ some zs → list' ≡ sets list place zs

-- where reading stands: the place, D, R and L as words, whether R and L were read, and how many numbers of I, K and E lines
abbrev pub progress_of : ℕ → ℕ → ℕ → ℕ → Bool → Bool → ℕ → ℕ → ℕ → TextProgress
progress_of at d r l bounded entered i k e =
    record { at = at; design = d; boundary = r; left = l; bounded = bounded; entered = entered; instructions = i; kerns = k; entries = e }

-- after I: 50 bytes, and four numbers more
abbrev pub past_instruction : TextProgress → TextProgress
past_instruction p =
    progress_of (p.at + 50) p.design p.boundary p.left p.bounded p.entered (p.instructions + 4) p.kerns p.entries

-- after K: 14 bytes, and one number more
abbrev pub past_kern : TextProgress → TextProgress
past_kern p =
    progress_of (p.at + 14) p.design p.boundary p.left p.bounded p.entered p.instructions (p.kerns + 1) p.entries

-- after E: 26 bytes, and two numbers more
abbrev pub past_entry : TextProgress → TextProgress
past_entry p =
    progress_of (p.at + 26) p.design p.boundary p.left p.bounded p.entered p.instructions p.kerns (p.entries + 2)

-- after R: 14 bytes, and the 32 bits of its number
abbrev pub past_boundary : TextProgress → ℕ → TextProgress
past_boundary p w = progress_of (p.at + 14) p.design w p.left true p.entered p.instructions p.kerns p.entries

-- after L: 14 bytes, and the 32 bits of its number
abbrev pub past_left : TextProgress → ℕ → TextProgress
past_left p w = progress_of (p.at + 14) p.design p.boundary w p.bounded true p.instructions p.kerns p.entries

-- after R or L, if its number was read
abbrev pub head_by : (ℕ → TextProgress) → Option ℤ → NextLine
head_by f none = next.Unreadable
head_by f (some z) = next.At (f (word_of z))

-- a line that comes once
abbrev pub head_line : List ℕ → TextProgress → Bool → (ℕ → TextProgress) → NextLine
head_line text p read f = cond read next.Unreadable (head_by f (number_on (drop (p.at + 1) text)))

-- a line read: further on; or the text is unreadable
pub record Goes (text : List ℕ) (p : TextProgress) (instructions kerns entries : List ℤ) (r : NextLine) : Type 0 where
  pub on : (q : TextProgress) → r ≡ next.At q → (p.at < q.at) × Scanning text q instructions kerns entries
  pub stuck : r ≡ next.Unreadable → read_text text ≡ none

-- ---- a text

-- D read: further on; or the text is unreadable
pub record Opens (text : List ℕ) (r : NextLine) : Type 0 where
  pub on : (q : TextProgress) → r ≡ next.At q → TellsText text q (opened (number_of q.design))
  pub stuck : r ≡ next.Unreadable → read_text text ≡ none

-- W read: the heads, with the word's length; or 16
abbrev pub word_reply : TextProgress → Option (List ℤ) → Reply
word_reply p none = reply_of 16 []
word_reply p (some zs) = reply_of 0 (heads_of p (pos (length zs)))

-- W read: what is answered, and the characters stored from the front of their list
pub record EndsWord (o : Option (List ℤ)) (p : TextProgress) (word : List ℕ) (r : rust.Option TextHeads) (word' : List ℕ) : Type 0 where
  pub answer : text_read_reply r ≡ word_reply p o
  pub stored : (zs : List ℤ) → o ≡ some zs → word' ≡ sets word 0 (map word_of zs)

-- the whole read: its numbers in every list; or the text is unreadable
pub record ReadsLists (text : List ℕ) (instructions kerns entries : List ℤ) (word : List ℕ) (r : rust.Option TextHeads) : Type 0 where
  pub on : (h : TextHeads) → r ≡ rust.Some h → ReadsText text r instructions kerns entries word
  pub stuck : r ≡ rust.None → read_text text ≡ none

-- zeros in every list
pub record Zeroed (instructions kerns entries : List ℤ) (word : List ℕ) : Type 0 where
  pub no_instructions : instructions ≡ zeros (pos 0) 2048
  pub no_kerns : kerns ≡ zeros (pos 0) 512
  pub no_entries : entries ≡ zeros (pos 0) 5040
  pub no_word : word ≡ zeros 0 64
