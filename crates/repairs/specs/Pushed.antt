-- Warnings written after those that are there already: the contract of each pass that warns.
use Rattle.std.specs.Prelude.{◌≡◌, List, ℕ, ◌+◌, ◌*◌, ℤ, length}
use Rattle.std.proofs.lemmas.List.Edits.{sets}

-- After n warnings come those of ws, four numbers each (R167), and there are r then. What passes the end of the lent list is left off.
pub record Pushed (warnings : List ℤ) (n : ℕ) (ws warnings' : List ℤ) (r : ℕ) : Type 0 where
  pub count : 4 * r ≡ 4 * n + length ws
  pub list : warnings' ≡ sets warnings (4 * n) ws
