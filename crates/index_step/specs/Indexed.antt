-- One step of a run that looks its pairs up in an index, over any index, any table and any state. Where a character stands left of a letter
-- with nothing pending (crate step_quick), the index says (R139) whether they have a pair: a bit that is missing is no pair, and a place at
-- which the pair does not stand is 7 (R140). Every other step is the step of captions/specs/Steps.
use Rattle.std.specs.Prelude.{◌≡◌, cond, List, ℕ, suc, ℤ}
use Rattle.captions.specs.declared.RunOptions.{RunOptions}
use Rattle.captions.specs.declared.State.{State}
use Rattle.captions.specs.declared.Step.{Step}
use Rattle.captions.specs.Replies.{answer_reply, is_end}
use Rattle.captions.specs.Steps.{refused, step_of}
use Rattle.step_quick.specs.Quick.{plain_code, next_letter, is_quick, is_entered, given_plain, given_first}
use Rattle.index.specs.declared.Looked.{Looked}
use Rattle.index.specs.declared.Looked.TheVariants.{Missing, At, Wrong}
use Rattle.index.specs.Index.{looked_up}

-- by what the index says of the character and the letter: the character as it stands; the first op of the entry, where that is a
-- character; 7
abbrev pub looked_step : List ℤ → List ℤ → ℤ → List ℕ → RunOptions → State → Looked → Step
looked_step pairs ops boundary word options s Missing = given_plain word s
looked_step pairs ops boundary word options s (At k) = cond (is_entered pairs ops k) (given_first pairs ops k s)
    (step_of pairs ops boundary word options s)
looked_step pairs ops boundary word options s Wrong = refused 7 s

-- a step by the index: where a character stands left of a letter with nothing pending it is by what the index says, else the step itself
abbrev pub indexed_step_of : List ℕ → List ℤ → List ℤ → ℤ → List ℕ → RunOptions → State → Step
indexed_step_of index pairs ops boundary word options s =
    cond (is_quick ops boundary word options s)
    (looked_step pairs ops boundary word options s (looked_up index pairs (suc (plain_code s.next_left)) (next_letter word s)))
    (step_of pairs ops boundary word options s)

-- THE contract of step_indexed: its answer, as a number and values (R285), and the state that it leaves
pub record IndexedStepped (index : List ℕ) (pairs ops : List ℤ) (boundary : ℤ) (word : List ℕ) (options : RunOptions) (s : State)
    (r : Step) : Type 0 where
  pub reply : answer_reply r.answer ≡ answer_reply (indexed_step_of index pairs ops boundary word options s).answer
  pub ends : is_end r.answer ≡ is_end (indexed_step_of index pairs ops boundary word options s).answer
  pub state : r.state ≡ (indexed_step_of index pairs ops boundary word options s).state
