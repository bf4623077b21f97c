-- Text put into a list of bytes, and numbers and characters as text. Bytes are those of ASCII: 40 and 41 parentheses, 48 to 57 the digits.
use Rattle.std.specs.Prelude.{◌≡◌, Bool, cond, List, [], ◌∷◌, ◌++◌, ℕ, zero, suc, ◌+◌, ◌/◌, ◌%◌, min, leb, ltb, length}
use Rattle.std.proofs.lemmas.List.Edits.{sets}
use Rattle.lang.specs.Every.{both}

-- the contract of all that put text into a list from a place on: `out` is the list as it was lent, out' as it comes back, and r the place
-- after the text. What passes the list's end is left off, and then r is the end.
pub record PutsText (out : List ℕ) (at : ℕ) (text : List ℕ) (r : ℕ) (out' : List ℕ) : Type 0 where
  pub next : r ≡ min (at + length text) (length out)
  pub list : out' ≡ sets out at text

-- a number of at most f digits in decimal, without zeros in front
unfoldable pub decimal_by : ℕ → ℕ → List ℕ
decimal_by zero n = []
decimal_by (suc f) n = cond (ltb n 10) ((48 + n) ∷ []) (decimal_by f (n / 10) ++ ((48 + n % 10) ∷ []))

-- a u32 in decimal
abbrev pub decimal_text : ℕ → List ℕ
decimal_text n = decimal_by 10 n

-- a character shows in print: ASCII from 33 to 126, so that a blank does not
abbrev pub is_printed : ℕ → Bool
is_printed c = both (leb 33 c) (leb c 126)

-- a code in parentheses
abbrev pub paren_text : ℕ → List ℕ
paren_text c = 40 ∷ (decimal_text c ++ (41 ∷ []))

-- a character as itself, or its code in parentheses
abbrev pub code_text : ℕ → List ℕ
code_text c = cond (is_printed c) (c ∷ []) (paren_text c)

-- the same with its code behind it, after a blank
abbrev pub char_text : ℕ → List ℕ
char_text c = cond (is_printed c) (c ∷ 32 ∷ paren_text c) (paren_text c)
