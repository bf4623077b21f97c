-- Bytes put into a list from a place on: what passes the list's end is left off.
use Rattle.std.specs.Prelude.{◌≡◌, List, ℕ, ◌+◌, length}
use Rattle.std.proofs.lemmas.List.Edits.{sets}

-- `out` is the list as it was lent, out' as it comes back, and r the place after the bytes
pub record PutsBytes (out : List ℕ) (at : ℕ) (bytes : List ℕ) (r : ℕ) (out' : List ℕ) : Type 0 where
  pub next : r ≡ at + length bytes
  pub list : out' ≡ sets out at bytes
