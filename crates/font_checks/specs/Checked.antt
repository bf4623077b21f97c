-- A font file checked: the font that its bytes mean (file_fonts/specs/Meant), compiled (fonts/specs/Compiled), and the contract of that.
use Rattle.std.specs.Prelude.{◌≡◌, List, [], ◌∷◌, ◌++◌, ℕ, ℤ, pos, length, replicate}
use Rattle.lang.specs.Checks.{or_else}
use Rattle.lang.specs.Answers.{Reply, reply_of, list_of}
use Rattle.files.specs.Reading.{file_instructions, file_kerns}
use Rattle.fonts.specs.Compiled.{room_in, compile_refusal, font_counts, ListsWritten}
use Rattle.file_fonts.specs.Meant.{meant_entries, lost_chars, meant_font, read_font_refusal, meant_values}
use Rattle.font_checks.specs.declared.Checked.{Checked}
use Rattle.font_checks.specs.declared.Checked.TheVariants as Answer

-- what reading the file refuses, 17 and 15, then what compile refuses of the font that it means
abbrev pub check_refusal : List ℕ → List ℤ → List ℤ → List ℤ → List ℤ → List ℤ → List ℤ → List ℤ → List ℕ → ℕ
check_refusal file instructions kerns entries lost pairs ops loops work =
    or_else (read_font_refusal file (length instructions) (length kerns) (length entries) (length lost))
    (compile_refusal (meant_font file) (room_in pairs ops loops work))

-- what a file is answered with that is not refused: what is read, and the counts of what is compiled
abbrev pub checked_values : List ℕ → List ℤ
checked_values file = meant_values file ++ font_counts (meant_font file)

-- an answer as a number and values
abbrev pub checked_reply : Checked → Reply
checked_reply (Answer.Font i k e n boundary left design p o l) =
    reply_of 0 (pos i ∷ pos k ∷ pos e ∷ pos n ∷ boundary ∷ left ∷ design ∷ pos p ∷ pos o ∷ pos l ∷ [])
checked_reply (Answer.Refused n) = record { number = n; values = [] }

-- THE contract of check_file, over the bytes that are the file: the answer, and each list with zeros after what is written, or zeros
-- alone; the work buffer is zeros
pub record ChecksFile (file : List ℕ) (instructions kerns entries lost pairs ops loops : List ℤ) (work : List ℕ) (r : Checked)
    (instructions' kerns' entries' lost' pairs' ops' loops' : List ℤ) (work' : List ℕ) : Type 0 where
  pub answer : checked_reply r ≡
      reply_of (check_refusal file instructions kerns entries lost pairs ops loops work) (checked_values file)
  pub program : instructions' ≡
      list_of (check_refusal file instructions kerns entries lost pairs ops loops work) (pos 0) (length instructions) (file_instructions file)
  pub kern_list : kerns' ≡
      list_of (check_refusal file instructions kerns entries lost pairs ops loops work) (pos 0) (length kerns) (file_kerns file)
  pub entry_list : entries' ≡
      list_of (check_refusal file instructions kerns entries lost pairs ops loops work) (pos 0) (length entries) (meant_entries file)
  pub lost_list : lost' ≡
      list_of (check_refusal file instructions kerns entries lost pairs ops loops work) (pos 0) (length lost) (lost_chars file)
  pub tables : ListsWritten (meant_font file) (check_refusal file instructions kerns entries lost pairs ops loops work) pairs ops loops
      pairs' ops' loops'
  pub cleared : work' ≡ replicate (length work) 0
