-- The removals one after the other (R483), over the table of the font as given.
use Rattle.std.specs.Prelude.{◌≡◌, Bool, true, false, List, ℕ, ℤ, length}
use Rattle.lang.specs.Records.{count}
use Rattle.fonts.specs.Fonts.{Font}
use Rattle.fonts.specs.Compiled.{room_of, font_table, font_ops}
use Rattle.captions.specs.declared.RunOptions.{RunOptions}
use Rattle.removals.specs.declared.Blamed.{Blamed}
use Rattle.removals.specs.declared.Blamed.TheVariants.{At, Nothing, Refused}
use Rattle.removals.specs.Search.{answer_without, first_answer}

-- a removal alters nothing
abbrev pub is_nothing : Blamed → Bool
is_nothing (At i) = false
is_nothing Nothing = true
is_nothing (Refused n) = false

-- where the table that is lent is the font's, and the list for edited instructions is as long as they are, the answer is the first of all
-- removals
pub record Searches (f : Font) (size : ℕ) (word : List ℕ) (options : RunOptions) (pairs ops pairsWithout opsWithout edited : List ℤ)
    (work : List ℕ) (r : Blamed) : Type 0 where
  pub answer : pairs ≡ font_table f → ops ≡ font_ops f → length edited ≡ length f.instructions → r ≡
      first_answer (answer_without f (room_of (length pairsWithout) (length opsWithout) 0 (length work)) size word options) (count
      f.instructions)
