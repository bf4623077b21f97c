-- What stands, as a list of items of two numbers each: kind (0 character, 1 ligature, 2 kern, 3 the left boundary) and value. One step looks
-- at the two items at the cursor alone, and puts others in their place.
use Rattle.std.specs.Prelude.{◌≡◌, Bool, true, false, cond, List, [], ◌∷◌, ◌++◌, ℕ, suc, ◌+◌, ◌*◌, ◌/◌, ◌%◌, ℤ, pos, leb, ltb, eqb, length, get_or, take, drop}
use Rattle.words.specs.Words.{word_of}
use Rattle.lang.specs.declared.operation.PostLigOperation.TheVariants.{RetainBothMoveNowhere, RetainBothMoveToInserted}
use Rattle.lang.specs.declared.operation.PostLigOperation.TheVariants.{RetainBothMoveToRight, RetainRightMoveToInserted}
use Rattle.lang.specs.declared.operation.PostLigOperation.TheVariants.{RetainRightMoveToRight, RetainLeftMoveNowhere}
use Rattle.lang.specs.declared.operation.PostLigOperation.TheVariants.{RetainLeftMoveToInserted, RetainNeitherMoveToInserted}
use Rattle.lang.specs.Every.{both}
use Rattle.lang.specs.Checks.{unless, or_else}
use Rattle.lang.specs.Answers.{Reply, reply_of, room_refusal, list_of}
use Rattle.reading.specs.Items.{Left, bnd, chr, Rule, free, kerned, lig, Rules}
use Rattle.readings.specs.declared.OneStep.{OneStep}
use Rattle.readings.specs.declared.OneStep.TheVariants as Answer

-- the kind and the value of item i
abbrev pub kind_at : List ℤ → ℕ → ℕ
kind_at items i = word_of (get_or items (2 * i) (pos 0))

abbrev pub value_at : List ℤ → ℕ → ℤ
value_at items i = get_or items (2 * i + 1) (pos 0)

-- its two numbers
abbrev pub stand_item : List ℤ → ℕ → List ℤ
stand_item items i = get_or items (2 * i) (pos 0) ∷ value_at items i ∷ []

-- its code: what passes a character is left off
abbrev pub code_at : List ℤ → ℕ → ℕ
code_at items i = word_of (value_at items i) % 256

-- as the left of a pair it is the boundary, or its code
abbrev pub left_at : List ℤ → ℕ → Left
left_at items i = cond (eqb (kind_at items i) 3) bnd (chr (code_at items i))

-- the rule of the two items at a cursor
abbrev pub cursor_rule : Rules → List ℤ → ℕ → Rule
cursor_rule rule items cursor = rule (left_at items cursor) (code_at items (suc cursor))

-- ---- what takes the place of the two

-- the numbers that take their place, and how far the cursor moves
pub record Replaced : Type 0 where
  pub numbers : List ℤ
  pub moves : ℕ

-- an inserted item, and a kern
abbrev pub ligature_item : ℕ → List ℤ
ligature_item c = pos 1 ∷ pos c ∷ []

abbrev pub kern_item : ℤ → List ℤ
kern_item k = pos 2 ∷ k ∷ []

-- a left that is finished stays in the list; the boundary goes
abbrev pub finished_item : Bool → List ℤ → List ℤ
finished_item true x = []
finished_item false x = x

-- so the cursor moves over it, or not
abbrev pub finished_moves : Bool → ℕ
finished_moves true = 0
finished_moves false = 1

-- by the rule, whether the left is the boundary, and the numbers of the two (R66 to R71, TeX 545)
abbrev pub replaced_by : Rule → Bool → List ℤ → List ℤ → Replaced
replaced_by free b x y = record { numbers = finished_item b x ++ y; moves = finished_moves b }
replaced_by (kerned k) b x y = record { numbers = finished_item b x ++ kern_item k ++ y; moves = finished_moves b + 1 }
-- LIG, op byte 0
replaced_by (lig RetainNeitherMoveToInserted c) b x y = record { numbers = ligature_item c; moves = 0 }
-- LIG/, 1
replaced_by (lig RetainRightMoveToInserted c) b x y = record { numbers = ligature_item c ++ y; moves = 0 }
-- /LIG, 2
replaced_by (lig RetainLeftMoveNowhere c) b x y = record { numbers = x ++ ligature_item c; moves = 0 }
-- /LIG/, 3
replaced_by (lig RetainBothMoveNowhere c) b x y = record { numbers = x ++ ligature_item c ++ y; moves = 0 }
-- LIG/>, 5
replaced_by (lig RetainRightMoveToRight c) b x y = record { numbers = ligature_item c ++ y; moves = 1 }
-- /LIG>, 6
replaced_by (lig RetainLeftMoveToInserted c) b x y = record { numbers = finished_item b x ++ ligature_item c; moves = finished_moves b }
-- /LIG/>, 7
replaced_by (lig RetainBothMoveToInserted c) b x y = record { numbers = finished_item b x ++ ligature_item c ++ y; moves = finished_moves b }
-- /LIG/>>, 11
replaced_by (lig RetainBothMoveToRight c) b x y = record { numbers = finished_item b x ++ ligature_item c ++ y; moves = finished_moves b + 1 }

-- what takes the place of the two at a cursor
abbrev pub replaced_at : Rules → List ℤ → ℕ → Replaced
replaced_at rule items cursor =
    replaced_by (cursor_rule rule items cursor) (eqb (kind_at items cursor) 3) (stand_item items cursor) (stand_item items (suc cursor))

-- ---- one step of the first `count` items

-- the list after it
abbrev pub next_items : Rules → List ℤ → ℕ → ℕ → List ℤ
next_items rule items count cursor =
    take (2 * cursor) items ++ (replaced_at rule items cursor).numbers ++ drop (2 * (cursor + 2)) (take (2 * count) items)

-- 7: the cursor is not at one of the items, or there are more of them than the list holds
abbrev pub standing_refusal : List ℤ → ℕ → ℕ → ℕ
standing_refusal items count cursor = unless 7 (both (ltb cursor count) (leb count (length items / 2)))

-- nothing stands right of the cursor
abbrev pub has_ended : ℕ → ℕ → Bool
has_ended count cursor = leb count (suc cursor)

-- 7, then 15 where the items that stand after the step are more than the list holds; a reading that has ended needs no room
abbrev pub one_step_refusal : Rules → List ℤ → ℕ → ℕ → ℕ
one_step_refusal rule items count cursor =
    or_else (standing_refusal items count cursor)
    (cond (has_ended count cursor) 0 (room_refusal (length (next_items rule items count cursor)) (length items)))

-- an answer as a number and values
abbrev pub stepped_reply : OneStep → Reply
stepped_reply (Answer.Standing n cursor) = reply_of 0 (pos n ∷ pos cursor ∷ [])
stepped_reply Answer.Ended = reply_of 0 []
stepped_reply (Answer.Refused n) = record { number = n; values = [] }

-- how many items then stand, and the cursor; nothing of a reading that has ended
abbrev pub stepped_values : Rules → List ℤ → ℕ → ℕ → List ℤ
stepped_values rule items count cursor =
    cond (has_ended count cursor) []
    (pos (length (next_items rule items count cursor) / 2) ∷ pos (cursor + (replaced_at rule items cursor).moves) ∷ [])

-- THE contract of one_step, by the rules of a font: the answer, and the list with zeros after the items, or zeros alone. A reading that has
-- ended leaves its items.
pub record StepsOnce (rule : Rules) (items : List ℤ) (count cursor : ℕ) (r : OneStep) (items' : List ℤ) : Type 0 where
  pub answer : stepped_reply r ≡ reply_of (one_step_refusal rule items count cursor) (stepped_values rule items count cursor)
  pub list : items' ≡
      list_of (one_step_refusal rule items count cursor) (pos 0) (length items)
      (cond (has_ended count cursor) (take (2 * count) items) (next_items rule items count cursor))
