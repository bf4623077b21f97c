-- TeX 543 to 545: what a character's word says of its entry, a word of the lig/kern section as an instruction, and a kern.
use Rattle.std.specs.Prelude.{Bool, cond, not, List, [], ◌∷◌, ℕ, ◌+◌, ◌-◌, ◌*◌, ◌%◌, ℤ, pos, negsuc, leb, ltb, eqb}
use Rattle.words.specs.Words.{number_of}
use Rattle.lang.specs.Every.{both}
use Rattle.files.specs.Lengths.{file_byte}

-- byte j, 0 to 3, of word w of a file
abbrev pub word_byte : List ℕ → ℕ → ℕ → ℕ
word_byte file w j = file_byte file (4 * w + j)

-- ---- TeX 545: an instruction, from the four bytes of its word

-- below 128 the first byte is the next; 128 has none, and neither has a redirect
abbrev pub command_next : ℕ → ℤ
command_next a = cond (ltb a 128) (pos a) (negsuc 0)

-- above 128 the word is a redirect (3), wherever it stands; else from 128 on the third byte makes it a kern (1), and below a ligature (2)
abbrev pub command_kind : ℕ → ℕ → ℕ
command_kind a c = cond (ltb 128 a) 3 (cond (leb 128 c) 1 2)

-- of a redirect its target, its flag unset; of a kern its index; of a ligature its op byte, whatever it is, and its character
abbrev pub command_operand : ℕ → ℕ → ℕ → ℕ
command_operand a c d = cond (both (leb a 128) (leb 128 c)) (256 * (c - 128) + d) (256 * c + d)

-- the four numbers of the instruction in word w: next, right character, kind, operand
abbrev pub command_numbers : List ℕ → ℕ → List ℤ
command_numbers file w =
    command_next (word_byte file w 0)
    ∷ pos (word_byte file w 1)
    ∷ pos (command_kind (word_byte file w 0) (word_byte file w 2))
    ∷ pos (command_operand (word_byte file w 0) (word_byte file w 2) (word_byte file w 3))
    ∷ []

-- the first byte of word w is 255: in the first word of the section it names the boundary character, in the last the left entry
abbrev pub is_first255 : List ℕ → ℕ → Bool
is_first255 file w = eqb (word_byte file w 0) 255

-- ---- TeX 541: a kern, the number of the four bytes of its word

abbrev pub kern_number : List ℕ → ℕ → ℤ
kern_number file w =
    number_of (16777216 * word_byte file w 0 + 65536 * word_byte file w 1 + 256 * word_byte file w 2 + word_byte file w 3)

-- ---- TeX 543 and 544: the entry of a character

-- its width index is not zero, so that it exists, and its tag, the third byte's two low bits, is 1
abbrev pub is_lig_tagged : List ℕ → ℕ → Bool
is_lig_tagged file w = both (not (eqb (word_byte file w 0) 0)) (eqb (word_byte file w 2 % 4) 1)

-- the character and its entry, the remainder as it stands, still packed; none for another word
abbrev pub char_entry : List ℕ → ℕ → ℕ → List ℤ
char_entry file c w = cond (is_lig_tagged file w) (pos c ∷ pos (word_byte file w 3) ∷ []) []
