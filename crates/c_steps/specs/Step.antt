-- One step of a run (R98) whose state stands in a list (R218, R224): the contract of `ligkern_step`.
use Rattle.std.specs.Prelude.{◌≡◌, Bool, true, false, cond, List, [], ◌∷◌, ℕ, ℤ, pos, length, set}
use Rattle.std.proofs.Math.Option.{Option, none, some}
use Rattle.lang.specs.Checks.{or_else, lower}
use Rattle.lang.specs.Answers.{list_of, room_refusal}
use Rattle.captions.specs.declared.RunOptions.{RunOptions}
use Rattle.captions.specs.declared.State.{State}
use Rattle.captions.specs.declared.Answer.{Answer}
use Rattle.captions.specs.declared.Answer.TheVariants.{Char, Ligature, Kern, End, Refused}
use Rattle.captions.specs.declared.Step.{Step}
use Rattle.captions.specs.Replies.{answer_reply}
use Rattle.captions.specs.Steps.{refused, step_refusal, step_of}
use Rattle.word_items.specs.ItemLists.{is_item, item_at}
use Rattle.c_states.specs.States.{state_read, outside, moved_to}

-- a step from the state that was read; numbers that are no state are 7 (R222), after 4 and 6 of the call's own arguments
abbrev pub step_run_from : List ℤ → List ℤ → ℤ → List ℕ → RunOptions → Option State → Step
step_run_from pairs ops boundary word options none = refused (or_else (step_refusal boundary word options) 7) outside
step_run_from pairs ops boundary word options (some s) = step_of pairs ops boundary word options s

-- .. from the state that stands in a list
abbrev pub step_in : List ℤ → List ℤ → ℤ → List ℕ → RunOptions → List ℕ → Step
step_in pairs ops boundary word options state = step_run_from pairs ops boundary word options (state_read state)

-- the number of a step, and 15 where n places do not hold an item (R216): the lower of the two, so that 15 comes before 20 (R375)
abbrev pub given_number : Step → ℕ → ℕ
given_number given n = lower (answer_reply given.answer).number (room_refusal 7 n)

-- .. of the step from the state that stands in a list
abbrev pub step_number : List ℤ → List ℤ → ℤ → List ℕ → RunOptions → List ℕ → ℕ → ℕ
step_number pairs ops boundary word options state n = given_number (step_in pairs ops boundary word options state) n

-- 1 and the six numbers of an item as a T line has them; the end has none, so that zeros stand for it (R225)
abbrev pub item_numbers : Answer → List ℤ
item_numbers (Char c start) = pos 1 ∷ (answer_reply (Char c start)).values
item_numbers (Ligature c start n left right) = pos 1 ∷ (answer_reply (Ligature c start n left right)).values
item_numbers (Kern k) = pos 1 ∷ (answer_reply (Kern k)).values
item_numbers End = []
item_numbers (Refused n) = []

-- an item's numbers at the front of a list, which are `itemNumbers` where there is room for them and they are small; nothing of what is no
-- item
abbrev pub told_item : List ℤ → Answer → List ℤ
told_item items a = cond (is_item a) (item_at (set items 0 (pos 1)) 1 a) items

-- a character as it stands, which is what a quick step gives
abbrev pub is_char_item : Answer → Bool
is_char_item (Char c start) = true
is_char_item (Ligature c start n left right) = false
is_char_item (Kern k) = false
is_char_item End = false
is_char_item (Refused n) = false

-- the number, and what the two lists hold, by the step that is given; what is left in place of a state is read back as the state that the
-- step leaves
pub record StepsBy (given : Step) (state : List ℕ) (item : List ℤ) (r : ℕ) (state' : List ℕ) (item' : List ℤ) : Type 0 where
  pub number : r ≡ given_number given (length item)
  pub moved : state' ≡ moved_to (given_number given (length item)) state given.state
  pub told : item' ≡ list_of (given_number given (length item)) (pos 0) (length item) (item_numbers given.answer)
  pub again : r ≡ 0 → state_read state' ≡ some given.state

-- THE contract of ligkern_step: by the step from the state that stands in the list
abbrev pub StepsRun : List ℤ → List ℤ → ℤ → List ℕ → RunOptions → List ℕ → List ℤ → ℕ → List ℕ → List ℤ → Type 0
StepsRun pairs ops boundary word options state item r state' item' =
    StepsBy (step_in pairs ops boundary word options state) state item r state' item'
