-- Where reading stands: what the lent list holds of the steps so far, of which those past its end are counted alone.
use Rattle.std.specs.Prelude.{◌≡◌, Bool, true, cond, List, [], ◌∷◌, ◌*◌, ◌≤◌, ℤ, length}
use Rattle.std.proofs.Math.Option.{Option, none, some}
use Rattle.property_lists.specs.declared.Progress.{Progress}
use Rattle.property_lists.specs.ListReading.{ListRead}
use Rattle.std.specs.Prelude.{Option as Answer, Some, None}
use Rattle.pl_progress.specs.Changes.{changed_to}

-- xs over the front of d, as far as d goes
unfoldable pub overlay : List ℤ → List ℤ → List ℤ
overlay [] d = d
overlay (x ∷ xs) [] = []
overlay (x ∷ xs) (y ∷ d) = x ∷ overlay xs d

-- it is what the test lets through, and a list is changed with it
pub record ChangesBy (test : Bool) (s : Progress) (list list₀ : List ℤ) (r : Answer Progress) (list' : List ℤ) : Type 0 where
  pub is : changed_to r ≡ cond test (some s) none
  pub list_is : list' ≡ cond test list list₀

-- the list z was lent, and holds what r says
pub record Stands (z : List ℤ) (r : ListRead) (s : Progress) (instructions labels : List ℤ) : Type 0 where
  pub now_is : r.now ≡ s
  pub stored : instructions ≡ overlay r.program z
  pub labels_are : labels ≡ r.labels
  pub fours : length r.program ≡ 4 * s.steps
  pub some_step : s.ending ≡ true → 1 ≤ s.steps

pub record StandsAt (z : List ℤ) (o : Option ListRead) (s : Progress) (instructions labels : List ℤ) : Type 0 where
  pub read : ListRead
  pub is : o ≡ some read
  pub stands : Stands z read s instructions labels

-- after a property, and after all of them
pub data Follows (z : List ℤ) (o : Option ListRead) : Answer Progress → List ℤ → List ℤ → Type 0 where
  on : {s : Progress} {i l : List ℤ} → StandsAt z o s i l → Follows z o (Some s) i l
  stuck : {i l : List ℤ} → o ≡ none → Follows z o None i l
