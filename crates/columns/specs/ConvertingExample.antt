-- A text with kern values and indices past its K lines, and the text that it becomes (R464): computed in proofs/ConvertingExample, so that the
-- definitions are seen at work.
use Rattle.std.specs.Prelude.{List, [], ◌∷◌, ℕ, pos, negsuc}
use Rattle.columns.specs.Lines.{Line}
use Rattle.columns.specs.Replying.{line_of, bytes_of}

-- K 7 twice; the values 5, 7 and 5 again; the indices 1, of the second K line, 2 and 9, which lead past it and mean zero
abbrev pub value_lines : List Line
value_lines =
    line_of 68 (pos 0 ∷ [])
    ∷ line_of 75 (pos 7 ∷ [])
    ∷ line_of 73 (pos 0 ∷ pos 66 ∷ pos 0 ∷ pos 5 ∷ [])
    ∷ line_of 73 (pos 0 ∷ pos 67 ∷ pos 1 ∷ pos 1 ∷ [])
    ∷ line_of 73 (pos 0 ∷ pos 68 ∷ pos 0 ∷ pos 7 ∷ [])
    ∷ line_of 73 (pos 0 ∷ pos 69 ∷ pos 0 ∷ pos 5 ∷ [])
    ∷ line_of 75 (pos 7 ∷ [])
    ∷ line_of 73 (negsuc 0 ∷ pos 70 ∷ pos 1 ∷ pos 9 ∷ [])
    ∷ line_of 69 (pos 65 ∷ pos 0 ∷ [])
    ∷ line_of 87 (pos 65 ∷ [])
    ∷ []

-- 5 is the first kern that is added, 7 is the first K line, and zero is added after 5; the lines K 5 and K 0 stand before W
abbrev pub index_lines : List Line
index_lines =
    line_of 68 (pos 0 ∷ [])
    ∷ line_of 75 (pos 7 ∷ [])
    ∷ line_of 73 (pos 0 ∷ pos 66 ∷ pos 1 ∷ pos 2 ∷ [])
    ∷ line_of 73 (pos 0 ∷ pos 67 ∷ pos 1 ∷ pos 1 ∷ [])
    ∷ line_of 73 (pos 0 ∷ pos 68 ∷ pos 1 ∷ pos 0 ∷ [])
    ∷ line_of 73 (pos 0 ∷ pos 69 ∷ pos 1 ∷ pos 2 ∷ [])
    ∷ line_of 75 (pos 7 ∷ [])
    ∷ line_of 73 (negsuc 0 ∷ pos 70 ∷ pos 1 ∷ pos 3 ∷ [])
    ∷ line_of 69 (pos 65 ∷ pos 0 ∷ [])
    ∷ line_of 75 (pos 5 ∷ [])
    ∷ line_of 75 (pos 0 ∷ [])
    ∷ line_of 87 (pos 65 ∷ [])
    ∷ []

-- both as bytes
abbrev pub value_bytes : List ℕ
value_bytes = bytes_of value_lines

abbrev pub index_bytes : List ℕ
index_bytes = bytes_of index_lines
