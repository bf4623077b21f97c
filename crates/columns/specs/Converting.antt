-- A text written anew without kern values (R464 to R467): THE contract of `ligcols_convert`. Its lines stand as they stood, but for the kind
-- and the operand of the I lines whose values are shared; the kerns that are added stand as K lines before W, or at the end.
use Rattle.std.specs.Prelude.{◌≡◌, Bool, false, cond, List, [], ◌∷◌, ◌++◌, map, ℕ, zero, suc, ◌+◌, ◌*◌, ℤ, pos, leb, eqb, length, get_or, drop}
use Rattle.std.proofs.Math.Option.{Option, none, some}
use Rattle.lang.specs.Every.{both}
use Rattle.lang.specs.Checks.{unless, or_else, lower}
use Rattle.lang.specs.Answers.{list_of, room_refusal}
use Rattle.fonts.specs.Compiled.{font_refusal}
use Rattle.captions.specs.Begin.{letters_refusal}
use Rattle.columns.specs.Lines.{lines_of, write_line, text_of}
use Rattle.columns.specs.Texts.{Text, read_text, shared_text, font_of_text}
use Rattle.columns.specs.Replying.{line_of}
use Rattle.columns.specs.Ligcols.{signs_refusal, word_of_text, length_or}

-- ---- its lines

-- a line begins with this letter
abbrev pub begins_with : ℕ → List ℕ → Bool
begins_with letter [] = false
begins_with letter (b ∷ bs) = eqb b letter

-- I 73: the four numbers of instruction i
abbrev pub instruction_line : List ℤ → ℕ → List ℕ
instruction_line s i =
    write_line
    (line_of 73 (get_or s (4 * i) (pos 0) ∷ get_or s (4 * i + 1) (pos 0) ∷ get_or s (4 * i + 2) (pos 0) ∷ get_or s (4 * i + 3) (pos 0) ∷ []))

-- K 75: a line for each kern
abbrev pub kern_lines : List ℤ → List (List ℕ)
kern_lines kerns = map (λ k. write_line (line_of 75 (k ∷ []))) kerns

-- R464: lines of which the I lines, from number i on, are those of the program s; before W 87, or at the end, the K lines of what is added
unfoldable pub converted_lines : List ℤ → List ℤ → ℕ → List (List ℕ) → List (List ℕ)
converted_lines s added i [] = kern_lines added
converted_lines s added i (l ∷ ls) =
    cond (begins_with 87 l) (kern_lines added ++ (l ∷ ls))
    (cond (begins_with 73 l) (instruction_line s i ∷ converted_lines s added (suc i) ls) (l ∷ converted_lines s added i ls))

-- ---- the text

-- the kerns that sharing adds after a text's K lines
abbrev pub added_kerns : Text → List ℤ
added_kerns t = drop (length t.kerns) (shared_text t).kerns

-- lines written anew, of a text that says t; nothing where there are none
abbrev pub converted_bytes : Text → Option (List (List ℕ)) → List ℕ
converted_bytes t none = []
converted_bytes t (some ls) = text_of (converted_lines (shared_text t).instructions (added_kerns t) 0 ls)

-- the text that a text becomes; nothing where it is unreadable
abbrev pub converted_by : Option Text → List ℕ → List ℕ
converted_by none text = []
converted_by (some t) text = converted_bytes t (lines_of text)

abbrev pub converted_text : List ℕ → List ℕ
converted_text text = converted_by (read_text text) text

-- ---- its number

-- 16 (R465): K lines past 512, or a text past 65,536 bytes
abbrev pub limits_refusal : Text → List ℕ → ℕ
limits_refusal t bytes = unless 16 (both (leb (length (shared_text t).kerns) 512) (leb (length bytes) 65536))

-- R466: 16 before all; then 2, 4 and 5 of the font and 4 of a letter below 0, as `ligcols` judges them; then 15, then 20. Nothing is compiled
abbrev pub convert_number : Option Text → List ℕ → ℕ → ℕ
convert_number none bytes room = 16
convert_number (some t) bytes room =
    or_else (limits_refusal t bytes)
    (or_else (lower (font_refusal (font_of_text t)) (signs_refusal (word_of_text t)))
    (or_else (room_refusal (length bytes) room) (letters_refusal (word_of_text t))))

-- THE contract of ligcols_convert, for every text and every room: the length of the text that it becomes, or minus the number; and its bytes
-- and zeros, or zeros
pub record ConvertsText (text out : List ℕ) (r : ℤ) (out' : List ℕ) : Type 0 where
  pub answer : r ≡ length_or (convert_number (read_text text) (converted_text text) (length out)) (length (converted_text text))
  pub list : out' ≡ list_of (convert_number (read_text text) (converted_text text) (length out)) 0 (length out) (converted_text text)
