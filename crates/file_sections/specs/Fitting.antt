-- When a file can be written, and what then stands in the bytes that are lent.
use Rattle.std.specs.Prelude.{Bool, cond, List, ℕ, ◌*◌, ℤ, leb, eqb, length}
use Rattle.std.proofs.lemmas.List.Edits.{sets}
use Rattle.lang.specs.Every.{both}
use Rattle.lang.specs.Records.{count}
use Rattle.files.specs.Lengths.{lengths_of, lengths_refusal}
use Rattle.files.specs.Writing.{written_size, joined_file}

-- with n words of the lig/kern section and k kerns: 17 does not hold of the old file, the new one has at most 32,767 words, and there is
-- room for it
abbrev pub file_fits : List ℕ → ℕ → ℕ → ℕ → Bool
file_fits old n k room =
    both (eqb (lengths_refusal old) 0) (both (leb (written_size old n k) 32767) (leb (4 * written_size old n k) room))

-- the file in front of the bytes that are lent, where it can be written; else they are as they came
abbrev pub file_in_front : List ℕ → List ℤ → List ℤ → List ℤ → ℤ → List ℕ → List ℕ
file_in_front old s kerns table boundary out =
    cond (file_fits old (count s) (length kerns) (length out)) (sets out 0 (joined_file old (lengths_of old) s kerns table boundary)) out
