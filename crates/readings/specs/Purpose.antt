-- A step of the list is a step of what stands (theorem `same_step` of proofs/Theorems). No contract cites this.
use Rattle.std.specs.Prelude.{◌≡◌, List, [], ◌∷◌, ◌++◌, ℕ, ◌+◌, ◌<◌, ℤ, pos, length}
use Rattle.reading.specs.Items.{Rules, Item, item, Head, edge, at, glyph}
use Rattle.fonts.specs.Numbers.{out_numbers, op_numbers}
use Rattle.readings.specs.Standing.{Standing, step_standing}
use Rattle.readings.specs.Lists.{replaced_at, next_items}

-- the numbers of what is left of the cursor: the boundary, or an item
abbrev pub head_item : Head → List ℤ
head_item edge = pos 3 ∷ pos 0 ∷ []
head_item (at x) = out_numbers (glyph x)

-- the numbers of the items right of it
unfoldable pub right_numbers : List Item → List ℤ
right_numbers [] = []
right_numbers (y ∷ ys) = out_numbers (glyph y) ++ right_numbers ys

-- the numbers of what stands
abbrev pub stand_numbers : Standing → List ℤ
stand_numbers t = op_numbers t.finished ++ head_item t.left ++ right_numbers t.right

-- how many items that is, and where the cursor is
abbrev pub stand_count : Standing → ℕ
stand_count t = length t.finished + 1 + length t.right

abbrev pub stand_cursor : Standing → ℕ
stand_cursor t = length t.finished

-- the codes at the cursor are characters
abbrev pub HeadFits : Head → Type 0
HeadFits edge = Unit {0}
HeadFits (at (item f c)) = c < 256

abbrev pub RightFits : List Item → Type 0
RightFits [] = Unit {0}
RightFits (item f c ∷ ys) = c < 256

-- where something stands right of the cursor
abbrev pub GoesOn : Standing → Type 0
GoesOn t = 0 < length t.right

-- a step of the list of what stands, whatever stands behind it in the list, is the list of the step, and the cursor is the step's
abbrev pub SameStep : Type 0
SameStep =
    (rule : Rules) (t : Standing) (rest : List ℤ) → GoesOn t → HeadFits t.left → RightFits t.right →
    (next_items rule (stand_numbers t ++ rest) (stand_count t) (stand_cursor t) ≡ stand_numbers (step_standing rule t))
    × (stand_cursor t + (replaced_at rule (stand_numbers t ++ rest) (stand_cursor t)).moves ≡ stand_cursor (step_standing rule t))
