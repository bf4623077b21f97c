-- Lines of so many numbers each (R185, R205) from a list that is lent, bytes that are written at a place, and when there is room for them.
use Rattle.std.specs.Prelude.{◌≡◌, Bool, cond, List, [], ◌∷◌, ◌++◌, ℕ, ◌+◌, ◌-◌, ◌*◌, ◌/◌, ◌^◌, ◌≤◌, ℤ, leb, length}
use Rattle.std.proofs.lemmas.List.Edits.{sets}
use Rattle.words.specs.Lists.{tabulate}
use Rattle.lang.specs.Every.{both}
use Rattle.columns.specs.Lines.{Line, write_line}
use Rattle.columns.specs.Replying.{line_of}
use Rattle.text_justify.specs.InFields.{numbers_from}

-- of lines of n numbers each: line k
abbrev pub line_at : ℕ → ℕ → List ℤ → ℕ → Line
line_at letter n numbers k = line_of letter (numbers_from numbers (n * k) n)

-- .. and so many lines from line k on
abbrev pub lines_from : ℕ → ℕ → List ℤ → ℕ → ℕ → List Line
lines_from letter n numbers k count = tabulate count (λ i. line_at letter n numbers (k + i))

-- a line with its line feed
abbrev pub line_bytes : Line → List ℕ
line_bytes l = write_line l ++ (10 ∷ [])

-- there is room for bytes at a place
abbrev pub HasRoom : List ℕ → List ℕ → ℕ → Type 0
HasRoom bytes out at = at + length bytes ≤ length out

-- bytes are written there, and the place after them is answered
pub record Puts (bytes out : List ℕ) (at r : ℕ) (out' : List ℕ) : Type 0 where
  pub next : r ≡ at + length bytes
  pub written : out' ≡ sets out at bytes

-- lines that are taken: at most six numbers each, from a line on whose place among the numbers fits, and room for all of them
abbrev pub lines_fit : ℕ → ℕ → ℕ → ℕ → ℕ → Bool
lines_fit n k count at room =
    both (leb n 6) (both (leb k (2 ^ 60)) (both (leb at room) (leb count ((room - at) / (12 * n + 2)))))

-- bytes are written there where they are taken; else nothing is
pub record PutsWhere (taken : Bool) (bytes out : List ℕ) (at r : ℕ) (out' : List ℕ) : Type 0 where
  pub next : r ≡ cond taken (at + length bytes) at
  pub written : out' ≡ cond taken (sets out at bytes) out
