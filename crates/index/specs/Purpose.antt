-- What an index is for (R141): on a table in ascending order, whatever follows its index in the list, a look-up in the index finds every
-- pair that bisection finds, finds no other, and is never wrong.
use Rattle.std.specs.Prelude.{◌≡◌, true, List, ◌++◌, ℕ, ◌≤◌, ℤ}
use Rattle.lang.specs.Every.{every}
use Rattle.captions.specs.Tables.{pair_count, key_by, find}
use Rattle.captions.specs.Form.{key_form}
use Rattle.index.specs.Index.{index_of_table, FillsIndex, looked_up, looked_at}

-- a look-up of any left and right in the index of a table in ascending order answers what bisection finds
abbrev pub LooksUpAsFound : Type 0
LooksUpAsFound =
    (pairs : List ℤ) (rest : List ℕ) (l r : ℕ) → every (pair_count pairs) (key_form pairs) ≡ true → l ≤ 256 → r ≤ 255 →
    looked_up (index_of_table pairs ++ rest) pairs l r ≡ looked_at (find pairs (key_by l r))

-- the same of the list that the filling call wrote, where it was not refused
abbrev pub FilledLooksUp : Type 0
FilledLooksUp =
    (pairs : List ℤ) (index index' : List ℕ) (l r : ℕ) → FillsIndex pairs index 0 index' → l ≤ 256 → r ≤ 255 →
    looked_up index' pairs l r ≡ looked_at (find pairs (key_by l r))
