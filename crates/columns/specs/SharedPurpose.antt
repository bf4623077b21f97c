-- What is proved of texts whose kern values are shared, and of texts that are written anew without them (proofs/SharedTexts, proofs/LinesKept and
-- proofs/ConvertedTexts). No contract cites this.
use Rattle.std.specs.Prelude.{◌≡◌, true, false, cond, List, [], ◌∷◌, ℕ, ◌<◌, ℤ, length, get_or, take}
use Rattle.std.proofs.Math.Option.{some}
use Rattle.words.specs.Words.{word_of}
use Rattle.lang.specs.Records.{count, field, is_kind}
use Rattle.reading.specs.Items.{Left}
use Rattle.fonts.specs.Fonts.{Font, rules_of, pairs_of}
use Rattle.fonts.specs.Compiled.{Room, font_refusal, compile_refusal, font_table, font_ops, font_loops}
use Rattle.program_kerns.specs.SharedKerns.{holds_value}
use Rattle.columns.specs.Lines.{lines_of}
use Rattle.columns.specs.Texts.{Text, read_text, shared_text, font_as_it_stands, font_of_text}
use Rattle.columns.specs.Scanned.{length_of_word}
use Rattle.columns.specs.Ligcols.{column_items, column_number, column_bytes, word_of_text, number_of_text, bytes_of_text}
use Rattle.columns.specs.Converting.{begins_with, instruction_line, converted_text, limits_refusal, convert_number}

-- ---- sharing

-- two fonts that cannot be told apart by compiling them: the same pairs with a rule, and the same numbers 1 to 5 and 12 to 15 whatever room is
-- lent; and where none of 1 to 5 refuses them, the same rule for every pair, and the same table, ops and loops. (A kern index outside 0 to
-- 65,535 is 2; it is left as it is, and what is left of it modulo 65,536 may be the place of a kern that is added.)
pub record CompilesAlike (f g : Font) : Type 0 where
  pub pairs : pairs_of f ≡ pairs_of g
  pub font_number : font_refusal f ≡ font_refusal g
  pub number : (room : Room) → compile_refusal f room ≡ compile_refusal g room
  pub rules : font_refusal g ≡ 0 → (l : Left) (r : ℕ) → rules_of f l r ≡ rules_of g l r
  pub table : font_refusal g ≡ 0 → font_table f ≡ font_table g
  pub ops : font_refusal g ≡ 0 → font_ops f ≡ font_ops g
  pub loops : font_refusal g ≡ 0 → font_loops f ≡ font_loops g

-- R463: sharing alters nothing that a text is answered with: its font compiles as the font of its lines as they stand, and the number of the
-- reply, and where none of 1 to 5 refuses that font its bytes, are that font's
pub record SharedAlike (t : Text) : Type 0 where
  pub compiles : CompilesAlike (font_of_text t) (font_as_it_stands t)
  pub reply_number : (room : ℕ) →
      number_of_text (some t) room ≡ column_number (font_as_it_stands t) (length_of_word t.word) (word_of_text t) room
  pub reply_bytes_lem : font_refusal (font_as_it_stands t) ≡ 0 →
      bytes_of_text (some t) ≡ column_bytes (font_as_it_stands t) (length_of_word t.word) (word_of_text t)

-- of every text that is read
abbrev pub SharingAltersNothing : Type 0
SharingAltersNothing = (text : List ℕ) (t : Text) → read_text text ≡ some t → SharedAlike t

-- a font holds no kern value; and where none of 1 to 5 refuses it, each of its kern indices is that of a kern
pub record NoValueLeft (f : Font) : Type 0 where
  pub no_value : (i : ℕ) → i < count f.instructions → is_kind 0 f.instructions i ≡ false
  pub no_index_past : (i : ℕ) → i < count f.instructions → is_kind 1 f.instructions i ≡ true → font_refusal f ≡ 0 →
      word_of (field f.instructions i 3) < length f.kerns

abbrev pub NoValuesLeft : Type 0
NoValuesLeft = (text : List ℕ) (t : Text) → read_text text ≡ some t → NoValueLeft (font_of_text t)

-- ---- written anew

-- the lines that begin with a letter, in order
unfoldable pub lines_with : ℕ → List (List ℕ) → List (List ℕ)
lines_with letter [] = []
lines_with letter (l ∷ ls) = cond (begins_with letter l) (l ∷ lines_with letter ls) (lines_with letter ls)

-- R464: I line i of a text that says t stands byte for byte as it stood where its instruction holds no value; where it holds one, its letter and
-- its first two fields, 25 bytes, stand as they stood
pub record LineKept (t : Text) (lines : List (List ℕ)) (i : ℕ) : Type 0 where
  pub whole : holds_value t.instructions (length t.kerns) i ≡ false →
      instruction_line (shared_text t).instructions i ≡ get_or (lines_with 73 lines) i []
  pub front : take 25 (instruction_line (shared_text t).instructions i) ≡ take 25 (get_or (lines_with 73 lines) i [])

-- of every text that is read. The other lines stand as they stood by the definition, `convertedLines`
abbrev pub LinesKept : Type 0
LinesKept =
    (text : List ℕ) (t : Text) (lines : List (List ℕ)) → read_text text ≡ some t → lines_of text ≡ some lines →
    (i : ℕ) → i < count t.instructions → LineKept t lines i

-- R467: the text that a text becomes, within its limits, is read as that text with its kern values shared; so it has the same font, and with it
-- the same table, ops, loops, and items for every word, not only its own; and the same number and reply
pub record ConvertedAlike (text : List ℕ) (t : Text) : Type 0 where
  pub read : read_text (converted_text text) ≡ some (shared_text t)
  pub font : font_of_text (shared_text t) ≡ font_of_text t
  pub items : (letters : ℤ) (word : List ℕ) → column_items (font_of_text (shared_text t)) letters word ≡ column_items (font_of_text t) letters word
  pub reply_number : (room : ℕ) → number_of_text (read_text (converted_text text)) room ≡ number_of_text (read_text text) room
  pub reply_bytes_lem : bytes_of_text (read_text (converted_text text)) ≡ bytes_of_text (read_text text)

abbrev pub ConvertedIsRead : Type 0
ConvertedIsRead =
    (text : List ℕ) (t : Text) → read_text text ≡ some t → limits_refusal t (converted_text text) ≡ 0 → ConvertedAlike text t

-- writing anew what was written anew alters nothing, and it is taken wherever there is room for it
pub record ConvertedOnce (text : List ℕ) : Type 0 where
  pub same : converted_text (converted_text text) ≡ converted_text text
  pub number : (room : ℕ) →
      convert_number (read_text (converted_text text)) (converted_text (converted_text text)) room ≡ convert_number (read_text text) (converted_text text) room

abbrev pub ConvertedTwice : Type 0
ConvertedTwice =
    (text : List ℕ) (t : Text) → read_text text ≡ some t → limits_refusal t (converted_text text) ≡ 0 → ConvertedOnce text
