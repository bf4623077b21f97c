-- Where the loop over a text's properties stands, between two of them.
use Rattle.std.specs.Prelude.{◌≡◌, List, ℕ, suc, ◌+◌, ◌*◌, ◌≤◌, ◌<◌, ℤ, length, drop}
use Rattle.property_lists.specs.declared.Progress.{Progress}
use Rattle.property_lists.specs.ListReading.{ListRead, nothing_read, read_all}
use Rattle.std.specs.Prelude.{Option as Answer, Some, None}
use Rattle.pl_apply.specs.Standing.{Stands}

-- how many steps
abbrev pub steps_in : Answer Progress → ℕ
steps_in (Some s) = s.steps
steps_in None = 0

-- before a property, at a place of the text
pub record Going (text : List ℕ) (z : List ℤ) (s : Progress) (at : ℕ) (instructions labels : List ℤ) : Type 0 where
  pub read : ListRead
  pub stands : Stands z read s instructions labels
  pub fuel : ℕ
  pub enough : length text < fuel + at
  pub same : read_all fuel read (drop at text) ≡ read_all (suc (length text)) nothing_read text
  pub within : at ≤ length text
  pub few : 4 * s.steps ≤ at
