-- What a text is answered with (R200 to R212): THE contract of `ligcols`, the function that a host calls. The whole text is judged first
-- (16, R247); then comes the lowest number of compiling and of a letter below 0 (R246); then 20, where a letter is none (R376), but 15
-- before it where the lines without the word are too many; then 15, where the items or the bytes of the reply are too many (R204).
use Rattle.std.specs.Prelude.{◌≡◌, cond, List, [], map, ℕ, zero, suc, ◌*◌, ℤ, pos, negsuc, leb, ltb, length, get_or}
use Rattle.std.proofs.Math.Option.{Option, none, some}
use Rattle.words.specs.Words.{word_of}
use Rattle.lang.specs.Every.{every}
use Rattle.lang.specs.Checks.{unless, or_else, lower}
use Rattle.lang.specs.Answers.{Reply, reply_of, list_of}
use Rattle.fonts.specs.Fonts.{Font}
use Rattle.fonts.specs.Compiled.{Room, room_of, compile_refusal, font_table, font_ops, font_loops}
use Rattle.captions.specs.Begin.{letters_refusal, plain_options}
use Rattle.word_set.specs.Setting.{set_reply}
use Rattle.columns.specs.Texts.{Text, read_text, font_of_text}
use Rattle.columns.specs.Scanned.{letters_of, length_of_word}
use Rattle.columns.specs.Replying.{reply_bytes, reply_refusal}

-- ---- a font and a word

-- 512 pairs, 2,048 ops, 64 loops, and the work of 512 pairs (R201 to R203)
abbrev pub column_room : Room
column_room = room_of (6 * 512) (2 * 2048) (2 * 64) (16 * 512)

-- room for 885 items (R204), six numbers each: a reply of 65,536 bytes has room for the lines of no more, 74 bytes each
abbrev pub item_room : ℕ
item_room = 6 * 885

-- the items of a word of so many characters; none where there is no word, which a negative length says
abbrev pub column_items : Font → ℤ → List ℕ → Reply
column_items f (pos n) word = set_reply (font_table f) (font_ops f) f.boundary word plain_options item_room
column_items f (negsuc n) word = reply_of 0 []

-- the bytes of the reply, where nothing is refused
abbrev pub column_bytes : Font → ℤ → List ℕ → List ℕ
column_bytes f letters word = reply_bytes (font_table f) (font_ops f) (font_loops f) letters (column_items f letters word).values

-- 4 (R376): a letter below 0. A field is an i32, and its bits would be 20.
abbrev pub signs_refusal : List ℕ → ℕ
signs_refusal word = unless 4 (every (length word) (λ i. ltb (get_or word i 0) 2147483648))

-- a number, or a lower one; 0 where there is none
abbrev pub or_lower : ℕ → ℕ → ℕ
or_lower zero n = 0
or_lower (suc m) n = lower (suc m) n

-- 15 where the lines without a word, P, O and X, are too many
abbrev pub alone_number : List ℤ → List ℤ → List ℤ → ℕ → ℕ
alone_number pairs ops loops room = reply_refusal (reply_bytes pairs ops loops (negsuc 0) []) room

-- 20 (R376): a word with what is no letter has no items; 15 of the lines without it comes first
abbrev pub word_number : List ℤ → List ℤ → List ℤ → List ℕ → ℕ → ℕ
word_number pairs ops loops word room = or_lower (letters_refusal word) (alone_number pairs ops loops room)

-- the lowest number of compiling and of a letter below 0; else that of the word; else that of setting; else 15 of the reply
abbrev pub column_number : Font → ℤ → List ℕ → ℕ → ℕ
column_number f letters word room =
    or_else (lower (compile_refusal f column_room) (signs_refusal word))
    (or_else (word_number (font_table f) (font_ops f) (font_loops f) word room)
    (or_else (column_items f letters word).number (reply_refusal (column_bytes f letters word) room)))

-- ---- a text

-- the characters of the word by their 32 bits; none where there is no word
abbrev pub word_of_text : Text → List ℕ
word_of_text t = map word_of (letters_of t.word)

-- 16 where a text is unreadable, else the number of its font and word; 0 where it is answered
abbrev pub number_of_text : Option Text → ℕ → ℕ
number_of_text none room = 16
number_of_text (some t) room = column_number (font_of_text t) (length_of_word t.word) (word_of_text t) room

-- the bytes of the reply to a text, where nothing is refused; none where it is unreadable
abbrev pub bytes_of_text : Option Text → List ℕ
bytes_of_text none = []
bytes_of_text (some t) = column_bytes (font_of_text t) (length_of_word t.word) (word_of_text t)

-- the length, or minus the number (R211)
abbrev pub length_or : ℕ → ℕ → ℤ
length_or zero n = pos n
length_or (suc k) n = negsuc k

-- THE contract of ligcols, for every text and every length of reply: the reply's length, or minus the number; and the reply's bytes and
-- zeros, or zeros
pub record AnswersText (text reply : List ℕ) (r : ℤ) (reply' : List ℕ) : Type 0 where
  pub answer : r ≡ length_or (number_of_text (read_text text) (length reply)) (length (bytes_of_text (read_text text)))
  pub list : reply' ≡ list_of (number_of_text (read_text text) (length reply)) 0 (length reply) (bytes_of_text (read_text text))
