-- What is proved of texts that are written anew: statements of specs/SharedPurpose.
-- Assumes nothing.
use mathlib.Core.Path.{◌≡◌, refl, sym, ap, ◌∙◌}
use mathlib.Core.Bool.{Bool, true, cond}
use mathlib.Core.List.{List, []}
use mathlib.Core.Option.{Option, none, some}
use Prim.Native.Nat.{ℕ, ◌+◌, ◌≤◌}
use native.Mathlib.Omega.{arith}
use lib.IntN.{ℤ, pos}
use lib.Dec.{leb}
use lib.ListN.{length, get_or, drop, length-drop}
use lib.Seq.{drop-length}
use borrow.Author.Tests.{leb-true}
use Rattle.words.specs.Lists.{tabulate}
use Rattle.words.proofs.Lists.{tabulate_ext}
use Rattle.lang.specs.Every.{both}
use Rattle.lang.specs.Records.{count}
use Rattle.lang.specs.Checks.{unless, or_else, lower}
use Rattle.lang.specs.Answers.{room_refusal}
use Rattle.lang.proofs.Every.{both_left, both_right}
use Rattle.lang.proofs.Refusals.{unless_none}
use Rattle.program_kerns.specs.SharedKerns.{all_kerns, shared_number, share_kerns}
use Rattle.program_kerns.proofs.SharedKerns.{kerns_least}
use Rattle.fonts.specs.Fonts.{Font}
use Rattle.fonts.specs.Compiled.{font_refusal}
use Rattle.captions.specs.Begin.{letters_refusal}
use Rattle.columns.specs.Lines.{lines_of, text_of}
use Rattle.columns.specs.Texts.{Text, read_lines, read_text, shared_text}
use Rattle.columns.specs.Scanned.{length_of_word}
use Rattle.columns.specs.Ligcols.{column_items, column_number, column_bytes, signs_refusal, word_of_text, number_of_text, bytes_of_text}
use Rattle.columns.specs.Converting.{converted_lines, added_kerns, converted_bytes, converted_by, converted_text, limits_refusal, convert_number}
use Rattle.columns.specs.SharedPurpose.{ConvertedIsRead, ConvertedTwice}
use Rattle.columns.proofs.Options.{none_some, cond_some}
use Rattle.columns.proofs.TextLaws.{Known, text_known}
use Rattle.columns.proofs.SharedTwice.{shared_at, shared_kerns_twice, shared_program_twice, shared_text_twice, shared_font_twice}
use Rattle.columns.proofs.SharedTwice.{kerns_front, added_fits, shared_fits}
use Rattle.columns.proofs.ConvertedLines.{anew, all_again, unfed_back, lines_unfed, converted_unfed, lines_stay}

has_lines : (o : Option (List (List ℕ))) (t : Text) → read_lines o ≡ some t → (ls : List (List ℕ)) × (o ≡ some ls)
has_lines none t e = absurd (none_some e)
has_lines (some ls) t e = (ls, refl)

module _ (text : List ℕ) (t : Text) (read : read_text text ≡ some t) (limits : limits_refusal t (converted_text text) ≡ 0) where
  -- the program and the kerns that are shared
  abbrev program : List ℤ
  program = share_kerns t.instructions t.kerns

  abbrev kerns : List ℤ
  kerns = all_kerns t.instructions t.kerns

  within : both (leb (length kerns) 512) (leb (length (converted_text text)) 65536) ≡ true
  within = unless_none 15 (both (leb (length kerns) 512) (leb (length (converted_text text)) 65536)) limits

  few : length kerns ≤ 512
  few = leb-true (length kerns) 512 (both_left (leb (length kerns) 512) (leb (length (converted_text text)) 65536) within)

  -- ---- its lines

  read_lines_lem : read_lines (lines_of text) ≡ some t
  read_lines_lem = (cond_some (leb (length text) 65536) (read_lines (lines_of text)) t read).1

  lined : (ls : List (List ℕ)) × (lines_of text ≡ some ls)
  lined = has_lines (lines_of text) t read_lines_lem

  abbrev written : List (List ℕ)
  written = converted_lines program (added_kerns t) 0 lined.0

  text_is : converted_text text ≡ text_of written
  text_is = ap (λ (o : Option Text). converted_by o text) read ∙ ap (converted_bytes t) lined.1

  lines_are : lines_of (converted_text text) ≡ some written
  lines_are = ap lines_of text_is ∙ unfed_back (converted_unfed program (added_kerns t) 0 (lines_unfed text lined.0 lined.1))

  -- ---- read again

  known : Known t
  known = text_known text t read

  program_is : tabulate (length t.instructions) (λ j. get_or program j (pos 0)) ≡ program
  program_is =
      tabulate_ext (length t.instructions) (λ j. get_or program j (pos 0)) (shared_number t.instructions kerns (length t.kerns))
      (shared_at t.instructions t.kerns)

  room : length t.kerns + length (added_kerns t) ≤ 512
  room = omega (arith, few, length-drop (length t.kerns) kerns, kerns_least t.instructions t.kerns (count t.instructions))

  pub read_again : read_text (converted_text text) ≡ some (shared_text t)
  read_again =
      ap (λ (b : Bool). cond b (read_lines (lines_of (converted_text text))) none)
      (both_right (leb (length kerns) 512) (leb (length (converted_text text)) 65536) within)
      ∙ ap read_lines lines_are
      ∙ all_again program (added_kerns t)
      (shared_fits t.instructions t.kerns known.instruction_numbers known.kern_numbers (omega (arith, few)))
      (added_fits t.instructions t.kerns known.instruction_numbers known.kern_numbers)
      lined.0 t room (sym (ap read_lines lined.1) ∙ read_lines_lem)
      ∙ (λ i. some (anew t (program_is i) (kerns_front t.instructions t.kerns (count t.instructions) i)))

  -- ---- written anew again

  none_added : added_kerns (shared_text t) ≡ []
  none_added = ap (drop (length kerns)) (shared_kerns_twice t.instructions t.kerns) ∙ drop-length kerns

  pub same_text : converted_text (converted_text text) ≡ converted_text text
  same_text =
      ap (λ (o : Option Text). converted_by o (converted_text text)) read_again
      ∙ ap (converted_bytes (shared_text t)) lines_are
      ∙ (λ i. text_of (converted_lines (shared_program_twice t.instructions t.kerns i) (none_added i) 0 written))
      ∙ ap text_of (lines_stay program (added_kerns t) 0 lined.0)
      ∙ sym text_is

-- the number of a text that is shared
shared_number_lem : (t : Text) (bytes : List ℕ) (room : ℕ) → convert_number (some (shared_text t)) bytes room ≡ convert_number (some t) bytes room
shared_number_lem t bytes room = (λ i.
    or_else (unless 16 (both (leb (length (shared_text_twice t i).kerns) 512) (leb (length bytes) 65536)))
    (or_else (lower (font_refusal (shared_font_twice t i)) (signs_refusal (word_of_text t)))
    (or_else (room_refusal (length bytes) room) (letters_refusal (word_of_text t)))))

-- The text that a text becomes is read as that text with its kern values shared: the same font, items of every word, number and reply.
pub converted_is_read : ConvertedIsRead
converted_is_read text t e l =
    let r = read_again text t e l in
    let f = shared_font_twice t in
    record {
      read = r;
      font = f;
      items = λ letters word. ap (λ (g : Font). column_items g letters word) f;
      reply_number = λ room.
          ap (λ (o : Option Text). number_of_text o room) r
          ∙ ap (λ (g : Font). column_number g (length_of_word t.word) (word_of_text t) room) f
          ∙ sym (ap (λ (o : Option Text). number_of_text o room) e);
      reply_bytes_lem =
          ap bytes_of_text r ∙ ap (λ (g : Font). column_bytes g (length_of_word t.word) (word_of_text t)) f ∙ sym (ap bytes_of_text e);
    }

-- Written anew again it stays, and is taken wherever there is room for it.
pub converted_twice : ConvertedTwice
converted_twice text t e l =
    let r = read_again text t e l in
    let q = same_text text t e l in
    record {
      same = q;
      number = λ room.
          (λ i. convert_number (r i) (q i) room)
          ∙ shared_number_lem t (converted_text text) room
          ∙ sym (ap (λ (o : Option Text). convert_number o (converted_text text) room) e);
    }
