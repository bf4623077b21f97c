-- What private functions promise of one byte.
use Rattle.std.specs.Prelude.{◌≡◌, ℕ, ◌+◌, ◌<◌, ◌≤◌}
use Rattle.std.proofs.Math.Option.{Option, none, some}
use Rattle.property_lists.specs.declared.Indents.{Indents}
use Rattle.property_lists.specs.declared.Indented.{Indented}
use Rattle.property_lists.specs.declared.Indented.TheVariants as indented
use Rattle.property_lists.specs.Indents.{indented_to}

abbrev pub blanks_of : Indented → ℕ
blanks_of (indented.To s) = s.blanks
blanks_of indented.Refused = 0

abbrev pub level_of : Indented → ℕ
level_of (indented.To s) = s.level
level_of indented.Refused = 0

abbrev pub good_of : Indented → ℕ
good_of (indented.To s) = s.good
good_of indented.Refused = 0

-- the counts can grow by one
pub record CanGrow (s : Indents) : Type 0 where
  pub blanks : s.blanks < 18446744073709551615
  pub level : s.level < 18446744073709551615
  pub good : s.good < 18446744073709551615

-- they are these at most
pub record IndentsTo (o : Option Indents) (blanks level good : ℕ) (r : Indented) : Type 0 where
  pub is : indented_to r ≡ o
  pub few_blanks : blanks_of r ≤ blanks
  pub few_open : level_of r ≤ level
  pub few_good : good_of r ≤ good
