-- What it is for a table to hold a font's pairs. Assumes nothing.
use mathlib.Core.Path.{◌≡◌}
use mathlib.Core.Option.{some}
use Prim.Native.Nat.{ℕ}
use Rattle.reading.specs.Items.{Left, free, Rules}
use Rattle.reading.specs.Depth.{Res, Finished, comp}

-- The table holds exactly the finished pairs that have a rule.
pub record Holds (rule : Rules) (table : Finished) : Type 0 where
  pub sound : (l : Left) (r : ℕ) (q : Res) → table l r ≡ some q → (d : ℕ) × (comp rule d l r ≡ some q)
  pub whole : (l : Left) (r : ℕ) (d : ℕ) (q : Res) → (rule l r ≡ free → ⊥) → comp rule d l r ≡ some q → table l r ≡ some q
