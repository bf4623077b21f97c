-- A reply read back, and what is proved of every text that is answered (proofs/Answered): nothing is lost in the format, the X lines are a
-- true meter of loops (R18), where there is none the T lines are the reading of the word (R21), and loops or not they are what it gives
-- once it ends (R23). No contract cites this.
use Rattle.std.specs.Prelude.{◌≡◌, cond, List, [], ◌∷◌, ◌++◌, ◌⊎◌, ◌↔◌, ℕ, ◌/◌, ℤ, pos, negsuc, eqb, length, get_or, take, drop}
use Rattle.std.proofs.Math.Option.{Option, none, some}
use Rattle.reading.specs.Items.{Left, Out}
use Rattle.reading.specs.Reading.{Ends}
use Rattle.fonts.specs.Fonts.{rules_of}
use Rattle.fonts.specs.Compiled.{font_table, font_ops, font_loops}
use Rattle.captions.specs.Demand3.{Answered, Reads}
use Rattle.captions.specs.Begin.{plain_options}
use Rattle.word_set.specs.Purpose.{SetAs, AllLetters}
use Rattle.columns.specs.Lines.{Line, lines_of, read_line}
use Rattle.columns.specs.Texts.{Text, read_text, font_of_text}
use Rattle.columns.specs.Scanned.{length_of_word}
use Rattle.columns.specs.Ligcols.{item_room, column_items, word_of_text, number_of_text, bytes_of_text}

-- ---- a reply read back

-- the pair table, the ops and the loop list, the word's length (-1 where there is no W) and the items, six numbers each
pub record Reported : Type 0 where
  pub pairs : List ℤ
  pub ops : List ℤ
  pub loops : List ℤ
  pub letters : ℤ
  pub items : List ℤ

-- the same, of its parts in that order
abbrev pub reported_of : List ℤ → List ℤ → List ℤ → ℤ → List ℤ → Reported
reported_of pairs ops loops letters items =
    record { pairs = pairs; ops = ops; loops = loops; letters = letters; items = items }

-- before the first line: empty lists, and no W
abbrev pub nothing_reported : Reported
nothing_reported = reported_of [] [] [] (negsuc 0) []

-- P, five numbers: a pair's ops are the next ones, so its first op is how many O lines came before
abbrev pub with_pair : Reported → List ℤ → Option Reported
with_pair r zs =
    cond (eqb (length zs) 5)
    (some (reported_of (r.pairs ++ take 4 zs ++ (pos (length r.ops / 2) ∷ drop 4 zs)) r.ops r.loops r.letters r.items)) none

-- O, two numbers: an op more
abbrev pub with_op : Reported → List ℤ → Option Reported
with_op r zs =
    cond (eqb (length zs) 2) (some (reported_of r.pairs (r.ops ++ zs) r.loops r.letters r.items)) none

-- X, two numbers: a loop more
abbrev pub with_loop : Reported → List ℤ → Option Reported
with_loop r zs =
    cond (eqb (length zs) 2) (some (reported_of r.pairs r.ops (r.loops ++ zs) r.letters r.items)) none

-- T, six numbers: an item more
abbrev pub with_item : Reported → List ℤ → Option Reported
with_item r zs =
    cond (eqb (length zs) 6) (some (reported_of r.pairs r.ops r.loops r.letters (r.items ++ zs))) none

-- W, one number
abbrev pub with_length : Reported → List ℤ → Option Reported
with_length r zs =
    cond (eqb (length zs) 1) (some (reported_of r.pairs r.ops r.loops (get_or zs 0 (pos 0)) r.items)) none

-- one line more: P 80, O 79, X 88, W 87, T 84
abbrev pub report : Reported → Option Line → Option Reported
report r none = none
report r (some l) =
    cond (eqb l.letter 80) (with_pair r l.numbers)
    (cond (eqb l.letter 79) (with_op r l.numbers)
    (cond (eqb l.letter 88) (with_loop r l.numbers)
    (cond (eqb l.letter 87) (with_length r l.numbers)
    (cond (eqb l.letter 84) (with_item r l.numbers) none))))

-- one line more after those that were read; none where they were unreadable
abbrev pub report_to : Option Reported → Option Line → Option Reported
report_to none l = none
report_to (some r) l = report r l

-- lines in order, each after what was read before it
unfoldable pub report_lines : List (List ℕ) → Option Reported → Option Reported
report_lines [] r = r
report_lines (l ∷ ls) r = report_lines ls (report_to r (read_line l))

-- all lines of a reply; none where its bytes are no lines
abbrev pub report_all : Option (List (List ℕ)) → Option Reported
report_all none = none
report_all (some ls) = report_lines ls (some nothing_reported)

-- the bytes of a reply read back; none where they are unreadable
abbrev pub read_reply : List ℕ → Option Reported
read_reply bytes = report_all (lines_of bytes)

-- ---- what is proved

-- Every reply is empty or ends in a line feed.
abbrev pub EndsInFeed : Type 0
EndsInFeed = (r : Option Text) → (bytes_of_text r ≡ []) ⊎ ((bs : List ℕ) × (bytes_of_text r ≡ bs ++ (10 ∷ [])))

-- the reading of the word of a text ends, and gives these items
abbrev pub WordReads : Text → List Out → Type 0
WordReads t items = Reads (font_of_text t) (word_of_text t) plain_options items

-- the run of its word answers these items, and then the end for ever
abbrev pub WordRuns : Text → List Out → Type 0
WordRuns t items = Answered (font_of_text t) (font_table (font_of_text t)) (font_ops (font_of_text t)) (word_of_text t) plain_options items

-- these items are what is set of its word, which `read_back` finds in the T lines
abbrev pub WordWritten : Text → List Out → Type 0
WordWritten t items = SetAs (font_of_text t) (font_table (font_of_text t)) (font_ops (font_of_text t)) (word_of_text t) plain_options item_room items

-- of a text that is answered
pub record AnsweredText (t : Text) : Type 0 where
  -- nothing is lost in the format: the reply, read back, gives the table, the ops, the loops and the items
  pub read_back : read_reply (bytes_of_text (some t)) ≡
      some (reported_of (font_table (font_of_text t)) (font_ops (font_of_text t)) (font_loops (font_of_text t)) (length_of_word t.word)
      (column_items (font_of_text t) (length_of_word t.word) (word_of_text t)).values)
  -- no X line is written exactly when every pair ends
  pub meter : (font_loops (font_of_text t) ≡ []) ↔ ((x : Left) (y : ℕ) → Ends (rules_of (font_of_text t)) x y)
  -- where none is written, the reading of the word ends, and the T lines are its items
  pub word_read : font_loops (font_of_text t) ≡ [] → (letters : List ℤ) → t.word ≡ some letters →
      (items : List Out) × WordReads t items × WordWritten t items
  -- loops or not: the run of the word ends, and the T lines are its items; and whatever the reading of the word gives once it ends, the T
  -- lines give (R23)
  pub run_ends : (letters : List ℤ) → t.word ≡ some letters → (items : List Out) × WordRuns t items × WordWritten t items
  pub run_reads : (letters : List ℤ) → t.word ≡ some letters → (items : List Out) → WordReads t items → WordWritten t items

-- Whatever text is lent, with whatever room, if it is read and none of the numbers refuses it then that holds of it.
abbrev pub EveryAnsweredText : Type 0
EveryAnsweredText = (text : List ℕ) (t : Text) (room : ℕ) → read_text text ≡ some t → number_of_text (some t) room ≡ 0 → AnsweredText t

-- No letter is lost (R387): of the same texts, the letters of the T lines by their starts and lengths are the word.
abbrev pub EveryLetterWritten : Type 0
EveryLetterWritten =
    (text : List ℕ) (t : Text) (room : ℕ) → read_text text ≡ some t → number_of_text (some t) room ≡ 0 →
    AllLetters (word_of_text t) (column_items (font_of_text t) (length_of_word t.word) (word_of_text t))
