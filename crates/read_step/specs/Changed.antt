-- The list after a change at the cursor.
use Rattle.std.specs.Prelude.{List, ◌++◌, ℕ, suc, ◌+◌, ◌-◌, ◌*◌, ◌<◌, ◌≤◌, ℤ, length, take, drop}
use Rattle.readings.specs.Lists.{stand_item}
use Rattle.read_change.specs.declared.Change.{Change}
use Rattle.read_change.specs.Changes.{inserts_of, changed_numbers}

-- how many items stand after a change
abbrev pub count_after : ℕ → Change → ℕ
count_after count r = count - 2 + r.left + r.right + inserts_of r.kind

-- the first `count` items after a change at a cursor
abbrev pub changed_items : Change → List ℤ → ℕ → ℕ → List ℤ
changed_items r items count cursor =
    take (2 * cursor) items ++ changed_numbers r (stand_item items cursor) (stand_item items (suc cursor))
    ++ drop (2 * (cursor + 2)) (take (2 * count) items)

-- two items stand at the cursor, and the list holds those that stand after a change
pub record ChangeFits (r : Change) (items : List ℤ) (count cursor : ℕ) : Type 0 where
  pub there : suc cursor < count
  pub within : 2 * count ≤ length items
  pub left : r.left ≤ 1
  pub right : r.right ≤ 1
  pub kind : r.kind ≤ 2
  pub room : 2 * count_after count r ≤ length items
