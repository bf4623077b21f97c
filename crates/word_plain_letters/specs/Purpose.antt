-- What letters given by a loop are for: they are steps, by any step that keeps these laws; and so the run's own, by bisection. Proved in
-- proofs/Theorems.
use Rattle.std.specs.Prelude.{◌≡◌, ℕ, ◌<◌, true, List, ℤ}
use Rattle.captions.specs.declared.RunOptions.{RunOptions}
use Rattle.captions.specs.declared.State.{State}
use Rattle.captions.specs.declared.Step.{Step}
use Rattle.captions.specs.Tables.{pair_count}
use Rattle.captions.specs.Steps.{step_of}
use Rattle.step_quick.specs.Quick.{next_letter, is_quick, is_kern, found_place, is_entered, given_plain, given_first, given_kern}
use Rattle.word_plain_letters.specs.PlainLetters.{plain_left}

-- A step that goes by a look-up of the places of pairs: a quick state gives its left as it stands where there is no pair, and the first op
-- of the entry where that can be read and begins with a character; and a last kern is given at once.
pub record StepsQuickly (place : ℕ → ℕ → ℕ) (pairs ops : List ℤ) (boundary : ℤ) (word : List ℕ) (options : RunOptions) (step : State → Step) :
    Type 0 where
  pub plain : (s : State) → is_quick ops boundary word options s ≡ true → place (plain_left s) (next_letter word s) ≡ pair_count pairs →
      step s ≡ given_plain word s
  pub first : (s : State) (k : ℕ) → is_quick ops boundary word options s ≡ true → place (plain_left s) (next_letter word s) ≡ k →
      k < pair_count pairs → is_entered pairs ops k ≡ true → step s ≡ given_first pairs ops k s
  pub kern : (s : State) → is_kern ops boundary word options s ≡ true → step s ≡ given_kern ops s

-- the run's own step, by bisection
abbrev pub StepGoesQuickly : Type 0
StepGoesQuickly =
    (pairs ops : List ℤ) (boundary : ℤ) (word : List ℕ) (options : RunOptions) →
    StepsQuickly (found_place pairs) pairs ops boundary word options (step_of pairs ops boundary word options)
