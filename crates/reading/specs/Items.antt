-- What the one-by-one reading (R64 to R76) speaks of; TeX 545 for the eight ligature operations.
use Rattle.std.specs.Prelude.{Bool, true, false, List, [], ◌∷◌, ℕ, ℤ}
use Rattle.lang.specs.declared.operation.PostLigOperation.{PostLigOperation}

-- the left of a pair: the left boundary, or a character
pub data Left : Type 0 where
  bnd : Left
  chr : ℕ → Left

-- what the font says of a pair: nothing; a kern, already scaled; a ligature operation with the character that it inserts
pub data Rule : Type 0 where
  free : Rule
  kerned : ℤ → Rule
  lig : PostLigOperation → ℕ → Rule

-- a font's rules: of each left and each right character
abbrev pub Rules : Type 0
Rules = Left → ℕ → Rule

-- an item of the text: a character as it came (false), or a ligature (true), and its code
pub data Item : Type 0 where
  item : Bool → ℕ → Item

-- whether an item is a ligature
abbrev pub flag : Item → Bool
flag (item f c) = f

-- the code of an item, character or ligature
abbrev pub code : Item → ℕ
code (item f c) = c

-- a character as it came
abbrev pub plain : ℕ → Item
plain c = item false c

-- an inserted character: it is a ligature, and stays one (R70)
abbrev pub inserted : ℕ → Item
inserted c = item true c

-- what stands left of the cursor: the left boundary, or an item
pub data Head : Type 0 where
  edge : Head
  at : Item → Head

-- rules go by codes: a ligature pairs as the character of its code (R65)
abbrev pub key : Head → Left
key edge = bnd
key (at x) = chr (code x)

-- the left of a pair as it stands left of the cursor: the boundary, or the character as it came
abbrev pub head : Left → Head
head bnd = edge
head (chr c) = at (plain c)

-- what a reading gives: a character or ligature, or a kern
pub data Out : Type 0 where
  glyph : Item → Out
  kern : ℤ → Out

-- what is given where the item left of the cursor is finished: a finished left boundary gives nothing (R71)
abbrev pub fin : Head → List Out
fin edge = []
fin (at x) = glyph x ∷ []
