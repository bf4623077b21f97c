-- The column text examples/ordinary.txt (R275), byte for byte, and what it says. That it reads so is computed (proofs/Example), so that the
-- definitions are seen at work.
use Rattle.std.specs.Prelude.{List, [], ◌∷◌, ◌++◌, ℕ, pos, negsuc}
use Rattle.std.proofs.Math.Option.{none, some}
use Rattle.columns.specs.Texts.{Text}

-- D 10485760: a design size of ten points, with 20 bits of fraction
abbrev pub design_line : List ℕ
design_line = 68 ∷ 32 ∷ 32 ∷ 32 ∷ 32 ∷ 49 ∷ 48 ∷ 52 ∷ 56 ∷ 53 ∷ 55 ∷ 54 ∷ 48 ∷ 10 ∷ []

-- I 0 105 2 200: before 'i' a ligature (kind 2), op byte 0 with character 200; the next instruction follows on the chain
abbrev pub first_line : List ℕ
first_line =
    73
    ∷ 32 ∷ 32 ∷ 32 ∷ 32 ∷ 32 ∷ 32 ∷ 32 ∷ 32 ∷ 32 ∷ 32 ∷ 32 ∷ 48
    ∷ 32 ∷ 32 ∷ 32 ∷ 32 ∷ 32 ∷ 32 ∷ 32 ∷ 32 ∷ 32 ∷ 49 ∷ 48 ∷ 53
    ∷ 32 ∷ 32 ∷ 32 ∷ 32 ∷ 32 ∷ 32 ∷ 32 ∷ 32 ∷ 32 ∷ 32 ∷ 32 ∷ 50
    ∷ 32 ∷ 32 ∷ 32 ∷ 32 ∷ 32 ∷ 32 ∷ 32 ∷ 32 ∷ 32 ∷ 50 ∷ 48 ∷ 48
    ∷ 10 ∷ []

-- I -1 33 1 0: before '!' the kern at index 0 (kind 1); the chain stops here
abbrev pub second_line : List ℕ
second_line =
    73
    ∷ 32 ∷ 32 ∷ 32 ∷ 32 ∷ 32 ∷ 32 ∷ 32 ∷ 32 ∷ 32 ∷ 32 ∷ 45 ∷ 49
    ∷ 32 ∷ 32 ∷ 32 ∷ 32 ∷ 32 ∷ 32 ∷ 32 ∷ 32 ∷ 32 ∷ 32 ∷ 51 ∷ 51
    ∷ 32 ∷ 32 ∷ 32 ∷ 32 ∷ 32 ∷ 32 ∷ 32 ∷ 32 ∷ 32 ∷ 32 ∷ 32 ∷ 49
    ∷ 32 ∷ 32 ∷ 32 ∷ 32 ∷ 32 ∷ 32 ∷ 32 ∷ 32 ∷ 32 ∷ 32 ∷ 32 ∷ 48
    ∷ 10 ∷ []

-- K 131072: an eighth of the design size
abbrev pub kern_line : List ℕ
kern_line = 75 ∷ 32 ∷ 32 ∷ 32 ∷ 32 ∷ 32 ∷ 32 ∷ 49 ∷ 51 ∷ 49 ∷ 48 ∷ 55 ∷ 50 ∷ 10 ∷ []

-- E 102 0: the chain of 'f' begins at instruction 0
abbrev pub entry_line : List ℕ
entry_line =
    69 ∷ 32 ∷ 32 ∷ 32 ∷ 32 ∷ 32 ∷ 32 ∷ 32 ∷ 32 ∷ 32 ∷ 49 ∷ 48 ∷ 50 ∷ 32 ∷ 32 ∷ 32 ∷ 32 ∷ 32 ∷ 32 ∷ 32 ∷ 32 ∷ 32 ∷ 32 ∷ 32 ∷ 48 ∷ 10 ∷ []

-- W 102 105 33: the word 'f', 'i', '!'
abbrev pub letters_line : List ℕ
letters_line =
    87
    ∷ 32 ∷ 32 ∷ 32 ∷ 32 ∷ 32 ∷ 32 ∷ 32 ∷ 32 ∷ 32 ∷ 49 ∷ 48 ∷ 50
    ∷ 32 ∷ 32 ∷ 32 ∷ 32 ∷ 32 ∷ 32 ∷ 32 ∷ 32 ∷ 32 ∷ 49 ∷ 48 ∷ 53
    ∷ 32 ∷ 32 ∷ 32 ∷ 32 ∷ 32 ∷ 32 ∷ 32 ∷ 32 ∷ 32 ∷ 32 ∷ 51 ∷ 51
    ∷ 10 ∷ []

-- the six lines, one after the other
abbrev pub example_bytes : List ℕ
example_bytes = design_line ++ first_line ++ second_line ++ kern_line ++ entry_line ++ letters_line

-- what they say: no boundary character, and no entry of the left boundary
abbrev pub example_text : Text
example_text =
    record {
      design = pos 10485760;
      boundary = none;
      left = none;
      instructions = pos 0 ∷ pos 105 ∷ pos 2 ∷ pos 200 ∷ negsuc 0 ∷ pos 33 ∷ pos 1 ∷ pos 0 ∷ [];
      kerns = pos 131072 ∷ [];
      entries = pos 102 ∷ pos 0 ∷ [];
      word = some (pos 102 ∷ pos 105 ∷ pos 33 ∷ []);
    }
