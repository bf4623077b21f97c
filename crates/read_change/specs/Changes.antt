-- What a rule does with the two at the cursor, as numbers: which of them stay, 1 or 0, how far the cursor passes, and what is inserted.
use Rattle.std.specs.Prelude.{◌≡◌, Bool, true, false, List, [], ◌∷◌, ◌++◌, ℕ, zero, suc, ◌-◌, ◌≤◌, min, ℤ, pos}
use Rattle.words.specs.Words.{number_of}
use Rattle.lang.specs.declared.operation.PostLigOperation.{PostLigOperation}
use Rattle.lang.specs.declared.operation.PostLigOperation.TheVariants.{RetainBothMoveNowhere, RetainBothMoveToInserted}
use Rattle.lang.specs.declared.operation.PostLigOperation.TheVariants.{RetainBothMoveToRight, RetainRightMoveToInserted}
use Rattle.lang.specs.declared.operation.PostLigOperation.TheVariants.{RetainRightMoveToRight, RetainLeftMoveNowhere}
use Rattle.lang.specs.declared.operation.PostLigOperation.TheVariants.{RetainLeftMoveToInserted, RetainNeitherMoveToInserted}
use Rattle.reading.specs.Items.{Rule, free, kerned, lig}
use Rattle.readings.specs.Lists.{Replaced}
use Rattle.read_change.specs.declared.Change.{Change}

-- ---- an operation (TeX 545)

-- whether it retains the left
abbrev pub retains_left : PostLigOperation → ℕ
retains_left RetainBothMoveNowhere = 1
retains_left RetainBothMoveToInserted = 1
retains_left RetainBothMoveToRight = 1
retains_left RetainRightMoveToInserted = 0
retains_left RetainRightMoveToRight = 0
retains_left RetainLeftMoveNowhere = 1
retains_left RetainLeftMoveToInserted = 1
retains_left RetainNeitherMoveToInserted = 0

-- whether it retains the right
abbrev pub retains_right : PostLigOperation → ℕ
retains_right RetainBothMoveNowhere = 1
retains_right RetainBothMoveToInserted = 1
retains_right RetainBothMoveToRight = 1
retains_right RetainRightMoveToInserted = 1
retains_right RetainRightMoveToRight = 1
retains_right RetainLeftMoveNowhere = 0
retains_right RetainLeftMoveToInserted = 0
retains_right RetainNeitherMoveToInserted = 0

-- how many items the cursor passes
abbrev pub passes : PostLigOperation → ℕ
passes RetainBothMoveNowhere = 0
passes RetainBothMoveToInserted = 1
passes RetainBothMoveToRight = 2
passes RetainRightMoveToInserted = 0
passes RetainRightMoveToRight = 1
passes RetainLeftMoveNowhere = 0
passes RetainLeftMoveToInserted = 1
passes RetainNeitherMoveToInserted = 0

-- ---- a rule: the same, and the kind and the value of what it inserts, kind 0 for nothing

abbrev pub left_of_rule : Rule → ℕ
left_of_rule free = 1
left_of_rule (kerned k) = 1
left_of_rule (lig p c) = retains_left p

abbrev pub right_of_rule : Rule → ℕ
right_of_rule free = 1
right_of_rule (kerned k) = 1
right_of_rule (lig p c) = retains_right p

abbrev pub advance_of_rule : Rule → ℕ
advance_of_rule free = 1
advance_of_rule (kerned k) = 2
advance_of_rule (lig p c) = passes p

abbrev pub kind_of_rule : Rule → ℕ
kind_of_rule free = 0
kind_of_rule (kerned k) = 2
kind_of_rule (lig p c) = 1

abbrev pub value_of_rule : Rule → ℤ
value_of_rule free = pos 0
value_of_rule (kerned k) = k
value_of_rule (lig p c) = pos c

-- a change of these numbers
abbrev pub change_of : ℕ → ℕ → ℕ → ℕ → ℕ → Change
change_of left right advance kind value = record { left = left; right = right; advance = advance; kind = kind; value = value }

-- a change is that of a rule, by the bits of the value
pub record Retains (rule : Rule) (r : Change) : Type 0 where
  pub left : r.left ≡ left_of_rule rule
  pub right : r.right ≡ right_of_rule rule
  pub advance : r.advance ≡ advance_of_rule rule
  pub kind : r.kind ≡ kind_of_rule rule
  pub value : number_of r.value ≡ value_of_rule rule

-- a boundary that is retained and that the cursor passes goes, so that the cursor passes one item less
abbrev pub finished_by : Bool → Change → Change
finished_by false r = r
finished_by true r =
    let gone = min r.left r.advance in
    change_of (r.left - gone) r.right (r.advance - gone) r.kind r.value

-- ---- the numbers that take the place of the two

-- what stays: all or nothing
abbrev pub stayed : ℕ → List ℤ → List ℤ
stayed zero xs = []
stayed (suc n) xs = xs

-- what is inserted, by its kind and the bits of its value
abbrev pub inserted_numbers : ℕ → ℕ → List ℤ
inserted_numbers zero w = []
inserted_numbers (suc k) w = pos (suc k) ∷ number_of w ∷ []

-- how many items that is
abbrev pub inserts_of : ℕ → ℕ
inserts_of zero = 0
inserts_of (suc k) = 1

-- what takes the place of two items
abbrev pub changed_numbers : Change → List ℤ → List ℤ → List ℤ
changed_numbers r x y = stayed r.left x ++ inserted_numbers r.kind r.value ++ stayed r.right y

-- a change is what takes the place of two items, and how far the cursor moves; its numbers are small
pub record ChangesAs (p : Replaced) (x y : List ℤ) (r : Change) : Type 0 where
  pub numbers : p.numbers ≡ changed_numbers r x y
  pub moves : p.moves ≡ r.advance
  pub left : r.left ≤ 1
  pub right : r.right ≤ 1
  pub kind : r.kind ≤ 2
  pub advance : r.advance ≤ 2
