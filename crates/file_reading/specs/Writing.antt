-- The lists of a font, each written to the front of a list, and the answer.
use Rattle.std.specs.Prelude.{◌≡◌, List, ℕ, ◌+◌, ℤ}
use Rattle.words.specs.Lists.{Filling, Appending}
use Rattle.lang.specs.Answers.{reply_of}
use Rattle.files.specs.declared.Deserialized.{Deserialized}
use Rattle.files.specs.Lengths.{lengths_of, kern_start}
use Rattle.files.specs.Commands.{kern_number}
use Rattle.files.specs.Reading.{file_instructions, file_entries, deserialized_reply, font_values}

-- what is written of a file that is not refused: the rest of each list is as it came
pub record WritesFont (file : List ℕ) (instructions kerns entries : List ℤ) (r : Deserialized)
    (instructions' kerns' entries' : List ℤ) : Type 0 where
  pub answer : deserialized_reply r ≡ reply_of 0 (font_values file)
  pub program : Appending (file_instructions file) instructions instructions'
  pub kern_list : Filling (λ i. kern_number file (kern_start (lengths_of file) + i)) kerns kerns' (lengths_of file).nk
  pub entry_list : Appending (file_entries file) entries entries'
