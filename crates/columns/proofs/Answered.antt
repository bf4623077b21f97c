-- What is proved of every text that is answered: the statements of specs/ReplyRead.
-- Assumes nothing.
use mathlib.Core.Path.{◌≡◌, refl}
use mathlib.Core.List.{List, map}
use mathlib.Core.Logic.{inl}
use mathlib.Core.Option.{Option, none, some}
use Prim.Native.Nat.{ℕ, ◌≤◌}
use native.Mathlib.Omega.{arith}
use lib.IntN.{ℤ}
use lib.ListN.{length}
use Rattle.words.specs.Words.{word_of}
use Rattle.fonts.specs.Fonts.{Font}
use Rattle.fonts.specs.Compiled.{loops_of_font, font_table, font_ops, font_loops}
use Rattle.word_set.specs.Purpose.{items_letters, AllLetters}
use Rattle.word_set.proofs.Letters.{every_set_word}
use Rattle.columns.specs.Lines.{write_line}
use Rattle.columns.specs.Texts.{font_of_text}
use Rattle.columns.specs.Scanned.{letters_of, length_of_word}
use Rattle.columns.specs.Replying.{reply_lines}
use Rattle.columns.specs.Ligcols.{column_room, item_room, column_items, word_of_text}
use Rattle.columns.specs.ReplyRead.{EndsInFeed, EveryAnsweredText, EveryLetterWritten}
use Rattle.columns.proofs.FontBegins.{loops_long}
use Rattle.columns.proofs.LinesBack.{text_ends}
use Rattle.columns.proofs.TextLaws.{text_known}
use Rattle.columns.proofs.WordRead.{accepted, meter, word_read, run_ends, run_reads}
use Rattle.columns.proofs.Fitting.{Fits, all_fit}
use Rattle.columns.proofs.Reported.{Worded, without, letters, reply_read}
use Rattle.columns.proofs.FontFits.{font_table_fits, font_ops_fit, font_loops_fit, font_contiguous}
use Rattle.columns.proofs.ItemFits.{set_sixes}
use Rattle.captions.specs.Begin.{plain_options}

-- Every reply is empty or ends in a line feed.
pub ends_in_feed : EndsInFeed
ends_in_feed none = inl refl
ends_in_feed (some t) =
    let f = font_of_text t in
    let n = length_of_word t.word in
    text_ends (map write_line (reply_lines (font_table f) (font_ops f) (font_loops f) n (column_items f n (word_of_text t)).values))

-- the items of a word of at most 64 letters are i32, six each
word_items : (f : Font) (o : Option (List ℤ)) (word : List ℕ) → Fits (font_ops f) → length (letters_of o) ≤ 64 →
    Worded (length_of_word o) (column_items f (length_of_word o) word).values
word_items f none word h l = without
word_items f (some zs) word h l =
    let s = set_sixes (font_table f) (font_ops f) h f.boundary word plain_options item_room in
    let items = (column_items f (length_of_word (some zs)) word).values in
    letters (length zs) items (omega (arith, l)) s.whole (all_fit items s.fits)

-- Whatever text is read and answered: nothing is lost in the format, the X lines are a true meter of loops, where there is none the T lines are the reading of
-- the word, and loops or not they are what it gives once it ends.
pub every_answered_text : EveryAnsweredText
every_answered_text text t room e taken =
    let f = font_of_text t in
    let k = text_known text t e in
    let a = accepted t room taken in
    let ops = font_ops_fit f column_room a.compiled k.design in
    record {
      read_back =
          reply_read (font_table f) (font_ops f) (font_loops f) (font_contiguous f column_room a.compiled k.design)
          (font_table_fits f column_room a.compiled k.design) ops
          (omega (arith, loops_long (loops_of_font f))) (font_loops_fit f) (word_items f t.word (word_of_text t) ops k.short);
      meter = meter f;
      word_read = word_read t k a;
      run_ends = run_ends t k a;
      run_reads = run_reads t k a;
    }

-- No letter is lost; a text without a word has no items.
letters_by : (f : Font) (o : Option (List ℤ)) → (column_items f (length_of_word o) (map word_of (letters_of o))).number ≡ 0 →
    AllLetters (map word_of (letters_of o)) (column_items f (length_of_word o) (map word_of (letters_of o)))
unfolding items_letters
letters_by f none z = refl
letters_by f (some zs) z = every_set_word (font_table f) (font_ops f) f.boundary (map word_of zs) plain_options item_room z

pub every_letter_written : EveryLetterWritten
every_letter_written text t room e taken = letters_by (font_of_text t) t.word (accepted t room taken).set
