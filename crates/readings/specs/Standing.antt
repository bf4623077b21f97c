-- What stands after some steps of the one-by-one reading (R64 to R71): what is finished, and what is left and right of the cursor.
use Rattle.std.specs.Prelude.{List, [], ◌∷◌, ◌++◌, ℕ, zero, suc}
use Rattle.reading.specs.Items.{Left, Rules, Item, code, plain, Head, key, head, Out}
use Rattle.reading.specs.Reading.{act}

pub record Standing : Type 0 where
  pub finished : List Out
  pub left : Head
  pub right : List Item

-- the same of its three parts
abbrev pub standing : List Out → Head → List Item → Standing
standing os x ys = record { finished = os; left = x; right = ys }

-- one step, by the rule of the two at the cursor; with nothing right of it the reading has ended, and nothing moves
abbrev pub step_with : Rules → List Out → Head → List Item → Standing
step_with rule os x [] = standing os x []
step_with rule os x (y ∷ ys) =
    let a = act (rule (key x) (code y)) x y in
    standing (os ++ a.outs) a.left (a.back ++ ys)

-- so it goes on from what stands
abbrev pub step_standing : Rules → Standing → Standing
step_standing rule t = step_with rule t.finished t.left t.right

-- what stands after n steps of the reading of a pair
unfoldable pub stands_after : Rules → ℕ → Left → ℕ → Standing
stands_after rule zero l r = standing [] (head l) (plain r ∷ [])
stands_after rule (suc n) l r = step_standing rule (stands_after rule n l r)
