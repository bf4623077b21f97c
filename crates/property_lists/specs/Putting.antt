-- Text put into a list of bytes from a place on, which counts one byte too many where it passes the end: so a list that is full is told from
-- one that is too short.
use Rattle.std.specs.Prelude.{◌≡◌, List, ℕ, ◌+◌, min, length}
use Rattle.std.proofs.lemmas.List.Edits.{sets}

-- `out` is the list as it was lent, out' as it comes back, and r the place after the text. What passes the list's end is left off, and then
-- r is the place behind the end.
pub record PutsCounted (out : List ℕ) (at : ℕ) (text : List ℕ) (r : ℕ) (out' : List ℕ) : Type 0 where
  pub next : r ≡ min (at + length text) (length out + 1)
  pub list : out' ≡ sets out at text
